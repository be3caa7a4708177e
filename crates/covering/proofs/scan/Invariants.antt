use Rattle.automata.specs.Loaded.{of_pairs}
use lib.ListN.{length}
use Rattle.covering.proofs.Trail.{following}
use Rattle.covering.proofs.Covering.{Masked}
use Rattle.covering.proofs.scan.Given as goal

abbrev pub invariant-loop-next : goal.invariant-loop-next
invariant-loop-next l = Masked l.contexts l.initial.chains l.state (of_pairs l.missing) (of_pairs l.present) l.chains l.place l.next

abbrev pub decreases-loop-next : goal.decreases-loop-next
decreases-loop-next l = following (length l.initial.chains) l.chains l.place
