use Rattle.periods.proofs.Candidates.{Left}
use Rattle.periods.proofs.table.by_letter.Given as goal

abbrev pub invariant-loop-rest : goal.invariant-loop-rest
invariant-loop-rest l = Left l.by l.rest l.initial.table l.table

abbrev pub decreases-loop-rest : goal.decreases-loop-rest
decreases-loop-rest l = l.rest
