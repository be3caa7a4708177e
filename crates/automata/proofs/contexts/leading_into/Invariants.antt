use mathlib.Core.Path.{◌≡◌}
use Rattle.bits.specs.Bits.{set_of}
use Rattle.automata.proofs.Turning.{leads}
use Rattle.automata.proofs.contexts.leading_into.Given as goal

abbrev pub invariant-loop-q : goal.invariant-loop-q
invariant-loop-q g l =
    let row = g.R.Row.Set in
    row.bits l.out ≡ set_of (leads row.WIDTH (g.R.Relation.packed l.paths) (row.bits l.x)) l.q
