-- `Automaton::longer` meets its contract. Assumes nothing.
use mathlib.Core.Path.{ap, ◌∙◌}
use Rattle.automata.specs.Loaded.{of}
use Rattle.automata.proofs.Moving.{rows_none}
use Rattle.automata.proofs.Longer.{longer_is}
use Rattle.automata.proofs.Automaton.longer.Goals as goal
use Rattle.automata.proofs.Automaton.longer.Goals.{else-is_none, then-is_none}

pub returns : goal.returns
returns g c =
    let args = c.args in
    let n = g.T.Pairs.Row.Set.WIDTH in
    let packed = g.T.Pairs.Relation.packed in
    let by = packed c.steps-steps.result in
    longer_is n (g.T.Table.cell args.self.now.table) args.self.now.head args.letter by c.steps-steps.ensures (of packed args.c)
    c.moved_rows-reach.ensures
    (elim c.if-is_none.branch [ then-is_none w ↦ ap packed w.before-is ∙ w.none-before.ensures ∙ rows_none n by (c.is_none.ensures w.if-is_none.true) | else-is_none w ↦ ap packed w.before-is ∙ w.moved_rows-before.ensures ])
    c.below-accepting.ensures c.met.ensures
