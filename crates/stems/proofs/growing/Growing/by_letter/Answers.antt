-- `by_letter` meets its contract. The loop's invariant: what comes of the states from q on is what comes of all. Assumes nothing.
use native.Mathlib.Omega.{arith}
use Rattle.growth.proofs.Offering.{gather_on, gather_done}
use Rattle.stems.specs.Candidates.{at_letter}
use Rattle.stems.proofs.Loop.{going_from, going_on, going_full, going_end}
use Rattle.stems.proofs.growing.Growing.by_letter.Goals as goal

pub loop-q-init : goal.loop-q-init
unfolding at_letter
loop-q-init c = going_from _

pub returns-in_err-offer_at : goal.returns-in_err-offer_at
returns-in_err-offer_at c =
    going_full _ _ c.loop-q.invariant (gather_on _ _ _ 16 c.loop-q.q _ (omega arith)) c.offer_at.ensures c.in_err-offer_at.was c.from_residual.ensures.0

pub loop-q-preserved : goal.loop-q-preserved
loop-q-preserved c =
    going_on _ _ c.loop-q.invariant (gather_on _ _ _ 16 c.loop-q.q _ (omega arith)) c.offer_at.ensures c.in_ok-offer_at.was

pub returns : goal.returns
returns c = going_end c.loop-q.invariant (gather_done _ _ _ 16 c.loop-q.q _ (omega arith))
