-- The stem tables U and W and the period tables with their words (document 01, "The walk", 1 to 3), for a model A and a rule B of n states.
-- Assumes nothing.
use Rattle.std.specs.Prelude.{Bool, ◌&&◌, List, [], ◌∷◌, ℕ, ◌^◌}
use Rattle.bits.specs.Bits.{bit}
use Rattle.bits.specs.Sets.{subset}
use Rattle.bits.specs.Pairs.{contained_on}
use Rattle.acceptance.specs.Lasso.{Aut, opens}
use Rattle.acceptance.specs.Contexts.{Context, moved_by, idle, longer}
use Rattle.growth.specs.Grow.{Outcome}
use Rattle.growth.specs.Steps.{gather, only, steps}
use Rattle.growth.specs.Nodes.{Node, seed, child, node_table}

-- a target covers another in U if it is inside it, in W if it has it inside
abbrev pub smallest : ℕ → ℕ → ℕ → Bool
smallest n s r = subset n s r

abbrev pub largest : ℕ → ℕ → ℕ → Bool
largest n s r = subset n r s

-- the members of s, rising: as many as there are rows to compare
unfoldable pub members : ℕ → ℕ → List ℕ
members n s = gather 0 n (λ q. only (bit s q) q)

-- a context covers another if, on the rows, it is contained in it in both numbers
unfoldable pub contained : (n rows : ℕ) → Context → Context → Bool
contained n rows c d = contained_on n rows c.reach d.reach && contained_on n rows c.through d.through

module _ (letters states n : ℕ) (A B : Aut) where
  -- from the empty word at A's initial state, whose target is B's
  unfoldable pub stem_nodes : (test : ℕ → ℕ → Bool) (room : ℕ) → Outcome (Node ℕ)
  stem_nodes test room = node_table letters states A (moved_by n B) test room (seed (2 ^ B.start) A.start ∷ [])

  -- the one-letter words from s, by the transitions at which a period may start; they have no parent, which 65,535 says
  unfoldable pub one_letter : ℕ → List (Node Context)
  one_letter s = steps letters states (λ x q. A.step s x q && opens A s x q) (child (longer n B) 65535 (seed (idle n B.final) s))

  unfoldable pub period_nodes : (s rows room : ℕ) → Outcome (Node Context)
  period_nodes s rows room = node_table letters states A (longer n B) (contained n rows) room (one_letter s)
