use Rattle.records.proofs.Reading.{Reading}
use Rattle.records.proofs.read.Given as goal

abbrev pub invariant-loop-i : goal.invariant-loop-i
invariant-loop-i l = Reading l.states l.s l.table l.draft l.i
