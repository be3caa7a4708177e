-- `table::by_letter` meets its contract. The loop's invariant: what the states that are left give is what all give. Assumes nothing.
use Rattle.std.proofs.Common.{arith, refl}
use Rattle.periods.proofs.Candidates.{left_start, left_ready, left_end, left_low, left_less, left_full, left_on}
use Rattle.periods.proofs.table.by_letter.Goals as goal

pub loop-rest-init : goal.loop-rest-init
loop-rest-init c = rw c.from-rest.ensures (left_start _ (omega arith) c.requires.ready)

pub period_link-requires-clause-state_bound : goal.period_link-requires-clause-state_bound
period_link-requires-clause-state_bound c = left_low c.loop-rest.invariant (omega arith) refl

pub offer-requires : goal.offer-requires
offer-requires c = left_ready c.loop-rest.invariant

pub returns-in_err-offer : goal.returns-in_err-offer
returns-in_err-offer c = left_full c.loop-rest.invariant (omega arith) refl c.period_link.ensures c.offer.ensures c.in_err-offer.was c.from_residual.ensures.0

pub loop-rest-smaller : goal.loop-rest-smaller
loop-rest-smaller c = left_less c.loop-rest.invariant (omega arith) refl

pub loop-rest-preserved : goal.loop-rest-preserved
loop-rest-preserved c = left_on c.loop-rest.invariant (omega arith) refl c.period_link.ensures c.offer.ensures c.in_ok-offer.was

pub returns : goal.returns
returns c = left_end c.loop-rest.invariant c.loop-rest-test.false
