-- `at_state` meets its contract. Assumes nothing.
use mathlib.Core.Path.{sym, ◌∙◌}
use native.Mathlib.Omega.{arith}
use borrow.Author.Rules.{rules}
use Rattle.std.proofs.lemmas.Result.{err_from_is_err_and}
use Rattle.automata.specs.Loaded.{cell, aut}
use Rattle.walk.specs.Walk.{rounds_at}
use Rattle.rounds.proofs.States.{opening_is, round_for, no_rounds, round_count}
use Rattle.rounds.proofs.Onward.{none_ran, onward, stop, end, tests_more}
use Rattle.rounds.proofs.at_state.Goals as goal

pub returns-then-not-has-clause-finished : goal.returns-then-not-has-clause-finished
returns-then-not-has-clause-finished c =
    let args = c.args in
    let m = args.on.model.now in
    none_ran _ _ _ _ (no_rounds (aut m) args.largest.now args.s (opening_is (cell m.table) m.head args.s ∙ sym (rw c.from.ensures at c.has.ensures) ∙ c.if-not-has.true)) args.before

pub returns-in_err-tally-clause-finished : goal.returns-in_err-tally-clause-finished
unfolding rounds_at round_for
returns-in_err-tally-clause-finished c =
    let p = err_from_is_err_and c.from_residual.result c.from_residual.ensures.1 in
    rw (p.1, p.2) (stop c.loop-entry.invariant.left (omega arith) c.in_err-tally.ensures.finished)

pub loop-entry-preserved : goal.loop-entry-preserved
unfolding round_for
loop-entry-preserved c =
    let ran = c.in_ok-tally.ensures.finished in
    let more = tests_more _ _ _ _ c.requires.ready.stems c.requires.ready.short _ _ _ 1 ran (round_count _ c.args.largest.now c.args.s c.loop-entry.entry-index) in
    record { lent = search rules; few = omega (arith, more); left = onward c.loop-entry.invariant.left (omega arith) ran }

pub returns-clause-finished : goal.returns-clause-finished
unfolding rounds_at round_for
returns-clause-finished c = end c.loop-entry.invariant.left (omega arith)
