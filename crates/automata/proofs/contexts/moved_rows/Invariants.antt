use mathlib.Core.Path.{◌≡◌}
use Rattle.automata.proofs.Moving.{rows_below}
use Rattle.automata.proofs.contexts.moved_rows.Given as goal

abbrev pub invariant-loop-p : goal.invariant-loop-p
invariant-loop-p g l =
    let packed = g.R.Relation.packed in
    packed l.out ≡ rows_below g.R.Row.Set.WIDTH (packed l.by) (packed l.c) l.p
