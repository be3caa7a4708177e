use Rattle.stems.proofs.Flags.{RaisedBelow}
use Rattle.stems.proofs.marks.mark.Given as goal

abbrev pub invariant-loop-g : goal.invariant-loop-g
invariant-loop-g l = RaisedBelow l.g l.largest l.entry l.initial.marks l.marks
