-- `table::expand` meets its contract. The loop's invariant: what the letters from x on give is what all give. Assumes nothing.
use mathlib.Core.Path.{ap}
use native.Mathlib.Omega.{arith}
use Rattle.automata.specs.Loaded.{aut}
use Rattle.periods.specs.Candidates.{at_letter}
use Rattle.periods.proofs.Loop.{loop_start, loop_end, loop_skip, loop_full, loop_on}
use Rattle.periods.proofs.Candidates.{by_letter, letters_all, letter_none}
use Rattle.periods.proofs.table.expand.Goals as goal

pub loop-x-init : goal.loop-x-init
loop-x-init c =
    let args = c.args in
    rw (letters_all args.model.now.table (aut args.rule.now) args.word) (loop_start _ _ _ c.requires.ready)

pub loop-x-preserved-then-model-x-eq0 : goal.loop-x-preserved-then-model-x-eq0
loop-x-preserved-then-model-x-eq0 c = loop_skip _ _ _ _ c.loop-x.invariant (omega arith) (letter_none _ _ _ _ c.if-model-x-eq0.true)

pub returns-in_err-by_letter : goal.returns-in_err-by_letter
unfolding by_letter
returns-in_err-by_letter c = loop_full _ _ _ _ c.loop-x.invariant (omega arith) (ap at_letter c.step.ensures) c.by_letter.ensures c.in_err-by_letter.was c.from_residual.ensures.0

pub loop-x-preserved : goal.loop-x-preserved
unfolding by_letter
loop-x-preserved c = loop_on _ _ _ _ c.loop-x.invariant (omega arith) (ap at_letter c.step.ensures) c.by_letter.ensures c.in_ok-by_letter.was

pub returns : goal.returns
returns c = loop_end _ _ _ _ c.loop-x.invariant (omega arith)
