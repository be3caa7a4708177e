use mathlib.Core.Path.{◌≡◌}
use lib.ListN.{drop}
use Rattle.acceptance.specs.Contexts.{longer_all, context_of}
use Rattle.automata.specs.Loaded.{aut, of_rows}
use Rattle.membership.proofs.context_of.Given as goal

abbrev pub invariant-loop-x : goal.invariant-loop-x
invariant-loop-x l = longer_all 16 (aut l.model) (of_rows l.context) (drop l.x-index l.fn.period) ≡ context_of 16 (aut l.model) l.fn.period
