-- The parents of a stem table stand before their children, and its first entry alone is the root. Assumes nothing.
use mathlib.Core.Path.{◌≡◌, sym, ◌∙◌, subst}
use mathlib.Core.Bool.{Bool, false, true≢false}
use mathlib.Core.List.Memᴰ
use mathlib.Core.List.{[], ◌∷◌}
use Prim.Native.Nat.{ℕ, ◌-◌, ◌≤◌, ◌<◌}
use native.Mathlib.Decide.{ℕ_discrete}
use native.Mathlib.Omega.{arith}
use lib.ListN.{length, get_or}
use Rattle.bits.specs.Fields.{stem_parent}
use Rattle.bits.proofs.Fields.{stem_parent_lem}
use Rattle.acceptance.specs.Lasso.{Aut}
use Rattle.acceptance.specs.Contexts.{Small, moved_by}
use Rattle.growth.specs.Numbered.{Bounded}
use Rattle.growth.specs.Nodes.{Node, seed, covers_by, children}
use Rattle.growth.specs.Tables.{stem_nodes}
use Rattle.growth.proofs.Entries.{At, at_below, entry}
use Rattle.growth.proofs.Grown.{tables}
use Rattle.growth.proofs.Built.{apart, table_built, built_entries}
use Rattle.growth.proofs.Nodes.{covers_self}
use Rattle.growth.proofs.Linked.{Linked, starting, following, linked}
use Rattle.growth.proofs.Rooms.{table_length}
use Rattle.stems.specs.Stems.{target_covers}
use Rattle.stems.proofs.Packed.{stem_entries, packed_stems, root_node, stem_kind, stem_fits, stem_entry_lem, stem_at}

module _ {A B : Aut} (bound : Bounded 16 16 A) (small : Small 8 B) (largest : Bool) (room : ℕ) where
  pub stem_linked : {i : ℕ} {e : Node ℕ} → At (stem_entries A B largest room) i e
      → Linked (root_node A B ∷ []) (stem_entries A B largest room) i e
  unfolding stem_nodes
  stem_linked a = linked 16 16 A (moved_by 8 B) (target_covers largest) room (root_node A B ∷ []) a

  module _ {i : ℕ} {e : Node ℕ} (a : At (stem_entries A B largest room) i e) where
    -- the parent stands before its child; the root has parent 0
    parent_low : e.parent ≤ i - 1
    unfolding seed
    parent_low = at (stem_linked a)
      where
        at : Linked (root_node A B ∷ []) (stem_entries A B largest room) i e → e.parent ≤ i - 1
        at (starting m) = rw (Memᴰ.eq_of_singleton m) (omega arith)
        at (following d k b w) = omega arith

    parent_fits : room ≤ 4096 → e.parent < 4096
    unfolding stem_nodes
    parent_fits l =
        let m = table_length (covers_by (target_covers largest)) (children 16 16 A (moved_by 8 B)) (root_node A B ∷ []) room in
        omega (arith, parent_low, at_below a)

    pub parent_at : room ≤ 4096 → stem_parent (get_or (packed_stems A B largest room) i 0) ≡ e.parent
    parent_at l =
        let h = (stem_fits bound small largest room).each a in
        rw (stem_at bound small largest room a) (stem_parent_lem e.load e.state e.letter e.parent h.load_fits h.state_fits h.letter_fits (parent_fits l))

  -- entry 0 is the root, and no other is
  root_at : {e : Node ℕ} → At (stem_entries A B largest room) 0 e → e ≡ root_node A B
  root_at a = at (stem_linked a)
    where
      at : {e : Node ℕ} → Linked (root_node A B ∷ []) (stem_entries A B largest room) 0 e → e ≡ root_node A B
      at (starting m) = Memᴰ.eq_of_singleton m
      at (following d k b w) = absurd (omega arith)

  pub only_root : {i : ℕ} {e : Node ℕ} → At (stem_entries A B largest room) i e → e ≡ root_node A B → i ≡ 0
  unfolding stem_nodes
  only_root {i} {e} a same = at (ℕ_discrete i 0)
    where
      at : Dec (i ≡ 0) → i ≡ 0
      at (yes z) = z
      at (no p) =
          let (d, b) = entry (stem_entries A B largest room) 0 (omega (arith, at_below a)) in
          let e-is : e ≡ d = same ∙ sym (root_at b) in
          let built = built_entries (table_built (tables (covers_by (target_covers largest)) (children 16 16 A (moved_by 8 B)) room (root_node A B ∷ []))) in
          absurd (true≢false (sym (covers_self (stem_kind {A = A} small largest) d) ∙ subst (λ (c : Node ℕ). covers_by (target_covers largest) d c ≡ false) e-is (apart built (omega arith) b a)))

  -- ---- what the packed entries have

  pub stem_parents : (i : ℕ) → 0 < i → i < length (packed_stems A B largest room) → stem_parent (get_or (packed_stems A B largest room) i 0) < i
  stem_parents i k l =
      let (e, a) = stem_entry_lem bound small largest room i l in
      let h = (stem_fits bound small largest room).each a in
      rw (stem_at bound small largest room a) (omega (arith, parent_low a, h.load_fits, h.state_fits, h.letter_fits))
