-- A wrong answer to whether enough is lent, which the contract rules out. Assumes nothing.
use mathlib.Core.Bool.{true}
use Rattle.bits.proofs.Refuses.{Refuses}
use Rattle.loading.specs.Outset.{long_enough}
use Rattle.loading.proofs.enough.Reads as enough

-- that one context number is enough for P = 1, which needs two
pub contexts_not_measured : Refuses enough.Post (record { stems = 1; periods = 1 }, (record { smallest = 1; largest = 1; links = 1; contexts = 1; stem = 1; period = 1 }, _)) true
unfolding long_enough
contexts_not_measured x p = cc
