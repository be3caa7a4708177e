-- Origin: the words of a table follow the links to parents, which stand before their children. Assumes nothing.
use mathlib.Core.Path.{◌≡◌, refl, sym, subst}
use mathlib.Core.Bool.{Bool}
use mathlib.Core.List.{List, [], ◌∷◌, ◌++◌, Memᴰ}
use Prim.Native.Nat.{ℕ, ◌<◌}
use Rattle.acceptance.specs.Lasso.{Aut}
use Rattle.growth.specs.Grow.{entries}
use Rattle.growth.specs.Nodes.{Node, child, children, covers_by, node_table}
use Rattle.growth.proofs.Entries.{At}
use Rattle.growth.proofs.Grown.{tables}
use Rattle.growth.proofs.Built.{Origin, from_first, from_earlier, origin, built_entries, table_built}
use Rattle.growth.proofs.Steps.{steps_mem}

-- an entry is a first candidate, or its parent stands before it and its word is the parent's longer by its letter
pub data Linked {L : Type 0} (first t : List (Node L)) (j : ℕ) (c : Node L) : Type 0 where
  starting : Memᴰ c first → Linked first t j c
  following : (e : Node L) → c.parent < j → At t c.parent e → c.word ≡ e.word ++ (c.letter ∷ []) → Linked first t j c

-- of a table that ended or lacked room
pub linked : {L : Type 0} (letters states : ℕ) (A : Aut) (advance : L → ℕ → L) (test : L → L → Bool) (room : ℕ) (first : List (Node L)) {j : ℕ} {c : Node L}
    → At (entries (node_table letters states A advance test room first)) j c → Linked first (entries (node_table letters states A advance test room first)) j c
unfolding children child
linked {L} letters states A advance test room first {j} {c} a = at (origin (built_entries (table_built (tables (covers_by test) (children letters states A advance) room first))) a)
  where
    t : List (Node L)
    t = entries (node_table letters states A advance test room first)

    at : Origin (covers_by test) (children letters states A advance) first t j c → Linked first t j c
    at (from_first m) = starting m
    at (from_earlier {i = i} {e = e} l a m) =
        let (x, q, _, _, _, same) = steps_mem letters states (λ x q. A.step e.state x q) (child advance i e) m in
        subst (Linked first t j) (sym same) (following e l a refl)
