use mathlib.Core.Path.{◌≡◌}
use Rattle.bits.specs.Bits.{set_of}
use Rattle.automata.proofs.Turning.{diagonal}
use Rattle.automata.proofs.contexts.turning.Given as goal

abbrev pub invariant-loop-p : goal.invariant-loop-p
invariant-loop-p g l = g.R.Row.Set.bits l.out ≡ set_of (diagonal g.R.Row.Set.WIDTH (g.R.Relation.packed l.around)) l.p
