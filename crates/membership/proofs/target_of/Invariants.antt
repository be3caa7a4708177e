use mathlib.Core.Path.{◌≡◌}
use lib.ListN.{drop}
use Rattle.acceptance.specs.Contexts.{moved_all, target}
use Rattle.automata.specs.Loaded.{aut}
use Rattle.membership.proofs.target_of.Given as goal

abbrev pub invariant-loop-x : goal.invariant-loop-x
invariant-loop-x l = moved_all 16 (aut l.model) l.set (drop l.x-index l.fn.stem) ≡ target 16 (aut l.model) l.fn.stem
