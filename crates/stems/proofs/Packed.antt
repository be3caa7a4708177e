-- The stem tables are those whose entries carry their words: the fields of an entry are read back, and there are at most a · 2 ^ b entries.
-- Assumes nothing.
use mathlib.Core.Path.{◌≡◌, ap, ◌∙◌, subst}
use mathlib.Core.Bool.{Bool, true, false}
use mathlib.Core.List.Memᴰ
use mathlib.Core.List.{List, [], ◌∷◌, map, Memᴰ}
use Prim.Native.Nat.{ℕ, ◌*◌, ◌^◌, ◌≤◌, ◌<◌}
use native.Mathlib.Omega.{arith}
use lib.Pow.{pow-lt}
use lib.ListN.{length, get_or, length-map}
use Rattle.bits.specs.Fields.{stem_entry, stem_target, stem_state, stem_letter}
use Rattle.bits.proofs.Fields.{stem_target_lem, stem_state_lem, stem_letter_lem}
use Rattle.acceptance.specs.Lasso.{Word, Aut}
use Rattle.acceptance.specs.Contexts.{Small, moved_by}
use Rattle.acceptance.proofs.Preserve.{Below}
use Rattle.acceptance.proofs.Targets.{moved_by_lt}
use Rattle.growth.specs.Grow.{Outcome, entries, Complete}
use Rattle.growth.specs.Numbered.{Numbered, Bounded}
use Rattle.growth.specs.Nodes.{Node, seed}
use Rattle.growth.specs.Tables.{stem_nodes}
use Rattle.growth.proofs.Entries.{At, Each, at_map, at_get_d, at_below, entry_map}
use Rattle.growth.proofs.Carried.{mapped, mapped_entries}
use Rattle.growth.proofs.Packing.{Fits, Read, packed_table, fits_entries, complete_mapped, mapped_complete, mapped_length}
use Rattle.growth.proofs.Stems.{StemKind, smallest_kind, largest_kind, stems_fit, stems_end}
use Rattle.stems.specs.Stems.{target_covers, stem_covers, stem_root, stem_next, stem_table}

-- an entry without its word
pack : ℕ → ℕ → ℕ → ℕ → ℕ
pack state target letter parent = stem_entry target state letter parent

abbrev pub stem_packed : Node ℕ → ℕ
stem_packed e = stem_entry e.load e.state e.letter e.parent

abbrev pub StemFits : Node ℕ → Type 0
StemFits = Fits 16 16 (λ t. t < 256)

-- U and W with their words, the entries of both, and the root
abbrev pub stem_words : (A B : Aut) (largest : Bool) (room : ℕ) → Outcome (Node ℕ)
stem_words A B largest room = stem_nodes 16 16 8 A B (target_covers largest) room

abbrev pub stem_entries : (A B : Aut) (largest : Bool) (room : ℕ) → List (Node ℕ)
stem_entries A B largest room = entries (stem_words A B largest room)

abbrev pub packed_stems : (A B : Aut) (largest : Bool) (room : ℕ) → List ℕ
packed_stems A B largest room = entries (stem_table A B largest room)

abbrev pub root_node : Aut → Aut → Node ℕ
root_node A B = seed (2 ^ B.start) A.start

-- which word stands for which: in U one whose target is smaller, in W one whose target is larger
abbrev pub StemOrder : Aut → Bool → Word → Word → Type 0
StemOrder B false u w = Below B u w
StemOrder B true u w = Below B w u

pub stem_kind : {A B : Aut} → Small 8 B → (largest : Bool) → StemKind 8 A B (target_covers largest) (StemOrder B largest)
unfolding target_covers
stem_kind small false = smallest_kind small
stem_kind small true = largest_kind small

stem_read : (e : Node ℕ) → StemFits e → Read pack stem_state stem_target e
unfolding pack
stem_read e h = record {
  state_read = stem_state_lem e.load e.state e.letter e.parent h.load_fits h.state_fits h.letter_fits;
  load_read = stem_target_lem e.load e.state e.letter e.parent h.load_fits h.state_fits h.letter_fits;
}

module _ {A B : Aut} (bound : Bounded 16 16 A) (small : Small 8 B) (largest : Bool) (room : ℕ) where
  fits_root : (c : Node ℕ) → Memᴰ c (root_node A B ∷ []) → StemFits c
  unfolding seed
  fits_root c m = rw (Memᴰ.eq_of_singleton m) (record { state_fits = bound.small.start_small; letter_fits = omega arith; load_fits = pow-lt small.start_small })

  pub stem_packed_lem : stem_table A B largest room ≡ mapped stem_packed (stem_words A B largest room)
  unfolding stem_table stem_covers stem_next stem_root stem_nodes seed pack
  stem_packed_lem = packed_table pack stem_state stem_target A (moved_by 8 B) (λ c x h. moved_by_lt 8 B c x) stem_read fits_root (target_covers largest) room

  pub stem_fits : Each StemFits (stem_entries A B largest room)
  unfolding stem_nodes
  stem_fits = fits_entries pack stem_state stem_target A (moved_by 8 B) (λ c x h. moved_by_lt 8 B c x) stem_read fits_root (target_covers largest) room

  stem_entries_lem : packed_stems A B largest room ≡ map stem_packed (stem_entries A B largest room)
  stem_entries_lem = ap entries stem_packed_lem ∙ mapped_entries stem_packed (stem_words A B largest room)

  -- one of them lacks room where the other does
  pub stem_complete : Complete (stem_table A B largest room) → Complete (stem_words A B largest room)
  stem_complete e = mapped_complete stem_packed (stem_words A B largest room) (subst Complete stem_packed_lem e)

  -- ---- the entry at an index, and its fields

  pub stem_entry_lem : (i : ℕ) → i < length (packed_stems A B largest room) → (e : Node ℕ) × At (stem_entries A B largest room) i e
  stem_entry_lem i l = entry_map stem_packed (stem_entries A B largest room) i (rw stem_entries_lem at l)

  module _ {i : ℕ} {e : Node ℕ} (a : At (stem_entries A B largest room) i e) where
    pub stem_at : get_or (packed_stems A B largest room) i 0 ≡ stem_packed e
    stem_at = rw stem_entries_lem (at_get_d 0 (at_map stem_packed a))

    pub stem_below : i < length (packed_stems A B largest room)
    stem_below = rw (stem_entries_lem, length-map (stem_entries A B largest room) stem_packed) (at_below a)

    pub state_at : stem_state (get_or (packed_stems A B largest room) i 0) ≡ e.state
    unfolding pack
    state_at = rw stem_at (stem_read e (stem_fits.each a)).state_read

    pub target_at : stem_target (get_or (packed_stems A B largest room) i 0) ≡ e.load
    unfolding pack
    target_at = rw stem_at (stem_read e (stem_fits.each a)).load_read

    pub letter_at : stem_letter (get_or (packed_stems A B largest room) i 0) ≡ e.letter
    letter_at = let h = stem_fits.each a in rw stem_at (stem_letter_lem e.load e.state e.letter e.parent h.load_fits h.state_fits h.letter_fits)

  -- ---- at most a · 2 ^ b entries, which is room enough

  module _ {a b : ℕ} (by-a : Numbered a A) (by-b : Numbered b B) where
    pub stem_bound : length (packed_stems A B largest room) ≤ a * 2 ^ b
    stem_bound = rw (stem_packed_lem, mapped_length stem_packed (stem_words A B largest room)) (stems_fit bound small (stem_kind small largest) room by-a by-b)

    pub stem_enough : a * 2 ^ b ≤ room → Complete (stem_table A B largest room)
    stem_enough l = rw stem_packed_lem (complete_mapped stem_packed (stem_words A B largest room) (stems_end bound small (stem_kind small largest) room by-a by-b l))
