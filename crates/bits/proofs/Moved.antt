-- A set moved by a step, and the loop that adds the rows of its members one by one. Assumes nothing.
use mathlib.Core.Bool.{Bool, true, false, ◌&&◌, ◌||◌, or-false}
use mathlib.Core.List.{List}
use mathlib.Core.Path.{◌≡◌, sym, ap, ap₂, ◌∙◌}
use Prim.Native.Nat.{ℕ, ◌+◌, ◌^◌, ◌<◌}
use native.Mathlib.Numerals.{add-one}
use lib.ListN.{length, get_or}
use lib.Pow.{pow_pos}
use Rattle.std.proofs.lemmas.List.{get_or_default}
use Rattle.bits.specs.Bits.{bit, set_of, any}
use Rattle.bits.specs.Sets.{union, moves_to, moved, by_sets}
use Rattle.bits.proofs.Truth.{and_left, and_right, and_both}
use Rattle.bits.proofs.Quantifiers.{any_intro, any_elim}
use Rattle.bits.proofs.Bits.{bit_zero, set_of_lt, bit_set_of, set_of_cong, set_of_is}

module _ (n : ℕ) (step : ℕ → ℕ → Bool) (x : ℕ) where
  pub moved_lt : moved n step x < 2 ^ n
  unfolding moved
  moved_lt = set_of_lt (moves_to step x n) n

  pub bit_moved : (q' : ℕ) → q' < n → bit (moved n step x) q' ≡ moves_to step x n q'
  unfolding moved
  bit_moved q' h = bit_set_of (moves_to step x n) n q' h

  -- what a member steps to is a member of the moved set, and each of its members is stepped to by one
  pub moved_has : (q q' : ℕ) → q < n → q' < n → bit x q ≡ true → step q q' ≡ true → bit (moved n step x) q' ≡ true
  unfolding moves_to
  moved_has q q' l h e s = bit_moved q' h ∙ any_intro (λ q. bit x q && step q q') n q l (and_both (bit x q) (step q q') e s)

  pub has_moved : (q' : ℕ) → q' < n → bit (moved n step x) q' ≡ true → (q : ℕ) × (q < n) × (bit x q ≡ true) × (step q q' ≡ true)
  unfolding moves_to
  has_moved q' h e =
      let w = any_elim (λ q. bit x q && step q q') n (sym (bit_moved q' h) ∙ e) in
      (w.0, w.1, and_left (bit x w.0) (step w.0 q') w.2, and_right (bit x w.0) (step w.0 q') w.2)

-- ---- the loop over the states

module _ (n : ℕ) (step : ℕ → ℕ → Bool) (x : ℕ) where
  -- what the members of x below q step to
  unfoldable pub moved_below : ℕ → ℕ
  moved_below q = set_of (moves_to step x q) n

  pub moved_below_lt : (q : ℕ) → moved_below q < 2 ^ n
  unfolding moved_below
  moved_below_lt q = set_of_lt (moves_to step x q) n

  pub moved_none : 0 ≡ moved_below 0
  unfolding moved_below moves_to any
  moved_none = set_of_is (moves_to step x 0) n 0 (pow_pos n) (λ i h. bit_zero i)

  -- where q is a member, what it steps to, y, is added
  pub moved_taken : (q y : ℕ) → ((i : ℕ) → i < n → bit y i ≡ step q i) → bit x q ≡ true → union n (moved_below q) y ≡ moved_below (q + 1)
  unfolding moved_below union moves_to any
  moved_taken q y steps e =
      let below = moves_to step x q in
      set_of_cong (λ i. bit (set_of below n) i || bit y i) (moves_to step x (q + 1)) n
      (λ i h. ap₂ ◌||◌ (bit_set_of below n i h) (steps i h) ∙ rw (add-one, e))

  pub moved_passed : (q : ℕ) → bit x q ≡ false → moved_below q ≡ moved_below (q + 1)
  unfolding moved_below moves_to any
  moved_passed q e = set_of_cong (moves_to step x q) (moves_to step x (q + 1)) n (λ i h. rw (add-one, e) (sym (or-false _)))

  pub moved_all_lem : (q : ℕ) → q ≡ n → moved_below q ≡ moved n step x
  unfolding moved moved_below
  moved_all_lem q e = ap moved_below e

-- where a list spells the step out, y is the set that stands at q
pub list_taken : {A : Type 0} (bits : A → ℕ) (none : A) (row : List A) (n x q : ℕ) (y : A) → q < length row → y ≡ get_or row q y → bit x q ≡ true
    → union n (moved_below n (by_sets bits none row) x q) (bits y) ≡ moved_below n (by_sets bits none row) x (q + 1)
unfolding by_sets
list_taken {A = A} bits none row n x q y l is e =
    moved_taken n (by_sets bits none row) x q (bits y) (λ i h. ap (λ (s : A). bit (bits s) i) (is ∙ get_or_default row q y none l)) e

-- what the loop over a list of sets rests on
pub ruleset member_by_member = (moved_none, list_taken, moved_passed, moved_all_lem)
