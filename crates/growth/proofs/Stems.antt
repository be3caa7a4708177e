-- The stem tables U and W (document 01, "The walk", 1 and 2): each stem of A has an entry that stands for it, and a · 2 ^ b entries are room enough.
-- Assumes nothing.
use mathlib.Core.Path.{◌≡◌, refl, sym, ap, ◌∙◌, subst}
use mathlib.Core.Bool.{Bool, true}
use mathlib.Core.List.Memᴰ
use mathlib.Core.List.{List, [], ◌∷◌, Memᴰ}
use Prim.Native.Nat.{ℕ, ◌*◌, ◌^◌, ◌≤◌, ◌<◌}
use lib.ListN.{length}
use Rattle.bits.specs.Bits.{bit, set_of}
use Rattle.bits.proofs.Truth.{bool_same}
use Rattle.bits.proofs.Bits.{set_of_lt, bit_set_of, bit_ext}
use Rattle.bits.proofs.Sets.{subset_self}
use Rattle.acceptance.specs.Lasso.{Word, Aut, Reach, here}
use Rattle.acceptance.specs.Contexts.{Small, moved_by, target}
use Rattle.acceptance.proofs.Paths.{reach_snoc}
use Rattle.acceptance.proofs.Preserve.{Below, below_trans, below_append}
use Rattle.acceptance.proofs.Targets.{target_nil, target_snoc, target_lt, target_is, subset_below}
use Rattle.growth.specs.Grow.{ended, entries, Complete}
use Rattle.growth.specs.Numbered.{Numbered, Bounded}
use Rattle.growth.specs.Nodes.{Node, seed}
use Rattle.growth.specs.Tables.{smallest, largest, stem_nodes}
use Rattle.growth.proofs.Entries.{Each}
use Rattle.growth.proofs.Basis.{Entry}
use Rattle.growth.proofs.Nodes.{True, Kind, Counted, turned, true_entries, basis, fits, ends_in_room}

-- the load of a stem is its target
abbrev pub Targeted : ℕ → Aut → ℕ → Word → Type 0
Targeted n B c w = c ≡ target n B w

-- what the entries of a stem table that is compared by a test stand for
abbrev pub StemKind : ℕ → Aut → Aut → (ℕ → ℕ → Bool) → (Word → Word → Type 0) → Type 0
StemKind n A B test Less = Kind A (moved_by n B) test (Reach A A.start) (Targeted n B) Less

pub smallest_kind : {n : ℕ} {A B : Aut} → Small n B → StemKind n A B (smallest n) (Below B)
smallest_kind {n} {A} {B} small = record {
  ends_snoc = λ w p x q h t. reach_snoc x h t;
  says_snoc = λ c w x e. rw e (sym (target_snoc n B w x));
  test_self = subset_self n;
  ordered = λ c d v w e f t. subset_below small v w (rw (e, f) at t);
  trans = λ a b c. below_trans;
  extend = λ a b x. below_append (x ∷ []);
}

pub largest_kind : {n : ℕ} {A B : Aut} → Small n B → StemKind n A B (largest n) (λ u w. Below B w u)
largest_kind small = turned (smallest_kind small)

-- the targets of words by the places of their members
module _ {n b : ℕ} {B : Aut} (small : Small n B) (by : Numbered b B) where
  places : ℕ → ℕ
  places c = set_of (λ i. bit c (by.name i)) b

  -- the states that one target has, another with the same places has
  shared : (v w : Word) (q : ℕ) → q < n → places (target n B v) ≡ places (target n B w) → bit (target n B v) q ≡ true → bit (target n B w) q ≡ true
  unfolding places
  shared v w q l e t =
      let h = (target_is small v).only q l t in
      let i = by.place q in
      let same : bit (target n B v) (by.name i) ≡ bit (target n B w) (by.name i) =
      sym (bit_set_of (λ i. bit (target n B v) (by.name i)) b i (by.below h)) ∙ ap (λ (s : ℕ). bit s i) e ∙ bit_set_of (λ i. bit (target n B w) (by.name i)) b i (by.below h) in
      sym (subst (λ (x : ℕ). bit (target n B v) x ≡ bit (target n B w) x) (by.back h) same) ∙ t

  same_target : (v w : Word) → places (target n B v) ≡ places (target n B w) → target n B v ≡ target n B w
  same_target v w e =
      bit_ext n (target n B v) (target n B w) (target_lt small v) (target_lt small w) (λ q l.
      bool_same (bit (target n B v) q) (bit (target n B w) q) (shared v w q l e) (shared w v q l (sym e)))

  targets_counted : {test : ℕ → ℕ → Bool} → ((c : ℕ) → test c c ≡ true) → Counted (Targeted n B) test (2 ^ b)
  unfolding places
  targets_counted {test} self = record {
    number = places;
    below = λ c w e. set_of_lt (λ i. bit c (by.name i)) b;
    told = λ c d v w e f q. subst (λ (x : ℕ). test c x ≡ true) (e ∙ same_target v w (ap places (sym e) ∙ q ∙ ap places f) ∙ sym f) (self c);
  }

module _ {letters states n : ℕ} {A B : Aut} (bound : Bounded letters states A) (small : Small n B) {test : ℕ → ℕ → Bool} {Less : Word → Word → Type 0} (kind : StemKind n A B test Less) (room : ℕ) where
  true_root : (c : Node ℕ) → Memᴰ c (seed (2 ^ B.start) A.start ∷ []) → True (Reach A A.start) (Targeted n B) c
  unfolding seed
  true_root c m = rw (Memᴰ.eq_of_singleton m) (record { ends = here; says = sym (target_nil n B) })

  -- every entry's word leads to its state and has its target
  pub stems_true : Each (True (Reach A A.start) (Targeted n B)) (entries (stem_nodes letters states n A B test room))
  unfolding stem_nodes
  stems_true = true_entries kind bound true_root room

  -- every stem of A has an entry at its state that stands for it
  pub stems_basis : {t : List (Node ℕ)} → stem_nodes letters states n A B test room ≡ ended t → {u : Word} {s : ℕ} → Reach A A.start u s → Entry Less t s u
  unfolding stem_nodes seed
  stems_basis is h = basis kind bound true_root room is (Memᴰ.head refl) h

  module _ {a b : ℕ} (by-a : Numbered a A) (by-b : Numbered b B) where
    counted : Counted (Targeted n B) test (2 ^ b)
    counted = targets_counted small by-b kind.test_self

    pub stems_fit : length (entries (stem_nodes letters states n A B test room)) ≤ a * 2 ^ b
    unfolding stem_nodes
    stems_fit = fits kind bound true_root room by-a (λ w q h. (w, h)) counted

    pub stems_end : a * 2 ^ b ≤ room → Complete (stem_nodes letters states n A B test room)
    unfolding stem_nodes
    stems_end = ends_in_room kind bound true_root room by-a (λ w q h. (w, h)) counted
