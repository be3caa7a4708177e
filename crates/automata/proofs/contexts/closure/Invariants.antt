use mathlib.Core.Path.{◌≡◌}
use Rattle.automata.specs.Repeated.{paths_over}
use Rattle.automata.proofs.contexts.closure.Given as goal

abbrev pub invariant-loop-k : goal.invariant-loop-k
invariant-loop-k g l = g.R.Relation.packed l.out ≡ paths_over g.R.Row.Set.WIDTH (g.R.Relation.packed l.fn.r) l.k
