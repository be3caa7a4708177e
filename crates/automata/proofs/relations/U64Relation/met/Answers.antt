-- `Relation::met` of eight states meets its contract. Assumes nothing.
use mathlib.Core.Path.{ap, ◌∙◌}
use Prim.Native.Nat.{ℕ}
use lib.Bits.{bit_and, bit_or}
use Rattle.automata.proofs.Rows.{or_and_rows}
use Rattle.automata.proofs.relations.U64Relation.met.Goals as goal

pub returns : goal.returns
returns c =
    ap (λ (x : ℕ). bit_or c.args.self (bit_and c.args.reach x)) c.columns.ensures
    ∙ or_and_rows 8 c.args.self c.args.reach c.args.accepting c.ranges.self.fits c.ranges.reach.fits c.ranges.accepting.fits
