use mathlib.Core.Path.{◌≡◌}
use Rattle.bits.proofs.Contained.{full_below}
use Rattle.bits.proofs.rows.rows.Given as goal

abbrev pub invariant-loop-q : goal.invariant-loop-q
invariant-loop-q l = l.out ≡ full_below 8 l.x l.q
