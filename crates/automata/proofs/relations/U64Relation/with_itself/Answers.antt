-- `Relation::with_itself` of eight states meets its contract. Assumes nothing.
use Prim.Native.Nat.{◌^◌}
use lib.Pow.{pow-lt}
use Rattle.bits.specs.Bits.{pack}
use Rattle.bits.specs.Pairs.{pairs}
use Rattle.automata.specs.Repeated.{paths_over}
use Rattle.automata.proofs.Rows.{or_rows}
use Rattle.automata.proofs.relations.U64Relation.with_itself.Goals as goal

pub returns : goal.returns
unfolding paths_over pairs pack
returns c = or_rows 8 c.args.self (λ q. 2 ^ q) c.ranges.self.fits (λ q. pow-lt)
