-- The stem tables U and W of a model A and a rule B, as the lent tables hold them (document 01, "The walk", 1 and 2). Assumes nothing.
use Rattle.std.specs.Prelude.{Bool, true, false, ◌&&◌, List, [], ◌∷◌, ℕ, ◌^◌, eqb}
use Rattle.bits.specs.Fields.{stem_entry, stem_target, stem_state}
use Rattle.acceptance.specs.Lasso.{Aut}
use Rattle.acceptance.specs.Contexts.{moved_by}
use Rattle.growth.specs.Grow.{Outcome, table}
use Rattle.growth.specs.Steps.{steps}
use Rattle.growth.specs.Tables.{smallest, largest}

-- which target covers which: in U one that is a subset of the candidate's, in W one that is a superset
unfoldable pub target_covers : (largest : Bool) → ℕ → ℕ → Bool
target_covers false = smallest 8
target_covers true = largest 8

-- an entry covers a candidate at the same state of A, by its target
unfoldable pub stem_covers : Bool → ℕ → ℕ → Bool
stem_covers largest old new = eqb (stem_state old) (stem_state new) && target_covers largest (stem_target old) (stem_target new)

module _ (A B : Aut) where
  -- entry 0: A's initial state, the empty word, B's initial state
  unfoldable pub stem_root : ℕ
  stem_root = stem_entry (2 ^ B.start) A.start 0 0

  -- the candidates of the entry e at index i: letters rising, then successor states rising
  unfoldable pub stem_next : ℕ → ℕ → List ℕ
  stem_next i e = steps 16 16 (λ x q. A.step (stem_state e) x q) (λ x q. stem_entry (moved_by 8 B (stem_target e) x) q x i)

  -- U, or W, with room for so many entries
  unfoldable pub stem_table : (largest : Bool) (room : ℕ) → Outcome ℕ
  stem_table largest room = table (stem_covers largest) stem_next room (stem_root ∷ [])
