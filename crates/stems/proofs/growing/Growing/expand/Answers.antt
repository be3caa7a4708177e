-- `expand` meets its contract. The loop's invariant: what comes of the letters from x on is what comes of all. Assumes nothing.
use native.Mathlib.Omega.{arith}
use Rattle.growth.proofs.Offering.{gather_on, gather_done}
use Rattle.stems.proofs.Candidates.{by_letter, letters_all}
use Rattle.stems.proofs.Loop.{going_from, going_on, going_full, going_end}
use Rattle.stems.proofs.growing.Growing.expand.Goals as goal

pub loop-x-init : goal.loop-x-init
loop-x-init c =
    rw letters_all (going_from _)

pub returns-in_err-by_letter : goal.returns-in_err-by_letter
unfolding by_letter
returns-in_err-by_letter c =
    going_full _ _ c.loop-x.invariant (gather_on _ _ _ 16 c.loop-x.x _ (omega arith))
    (rw c.step.ensures at c.by_letter.ensures) c.in_err-by_letter.was c.from_residual.ensures.0

pub loop-x-preserved : goal.loop-x-preserved
unfolding by_letter
loop-x-preserved c =
    going_on _ _ c.loop-x.invariant (gather_on _ _ _ 16 c.loop-x.x _ (omega arith))
    (rw c.step.ensures at c.by_letter.ensures) c.in_ok-by_letter.was

pub returns : goal.returns
returns c =
    going_end c.loop-x.invariant (gather_done _ _ _ 16 c.loop-x.x _ (omega arith))
