-- `each_state` meets its contract. Assumes nothing.
use native.Mathlib.Omega.{arith}
use borrow.Author.Rules.{rules}
use Rattle.std.proofs.lemmas.Result.{err_from_is_err_and}
use Rattle.automata.specs.Loaded.{aut}
use Rattle.walk.specs.Walk.{rounds}
use Rattle.rounds.proofs.States.{rounds_count}
use Rattle.rounds.proofs.Onward.{onward, stop, end, tests_more}
use Rattle.rounds.proofs.each_state.Goals as goal

pub returns-in_err-tally-clause-finished : goal.returns-in_err-tally-clause-finished
unfolding rounds
returns-in_err-tally-clause-finished c =
    let p = err_from_is_err_and c.from_residual.result c.from_residual.ensures.1 in
    rw (p.1, p.2) (stop c.loop-s.invariant.left (omega arith) c.in_err-tally.ensures.finished)

pub loop-s-preserved : goal.loop-s-preserved
loop-s-preserved c =
    let ran = c.in_ok-tally.ensures.finished in
    let more = tests_more _ _ _ _ c.requires.ready.stems c.requires.ready.short _ _ _ 4096 ran (omega (arith, rounds_count (aut c.args.on.model.now) c.args.largest.now c.loop-s.s)) in
    record { lent = search rules; few = omega (arith, more); left = onward c.loop-s.invariant.left (omega arith) ran }

pub returns-clause-finished : goal.returns-clause-finished
unfolding rounds
returns-clause-finished c = end c.loop-s.invariant.left (omega arith)
