-- Sets of numbers below n: subsets, unions and meets, the machine's tests of them, and sets by the property that their members have. Assumes nothing.
use mathlib.Core.Bool.{Bool, true, false, not, ◌&&◌, ◌||◌, not-not}
use mathlib.Core.Path.{◌≡◌, refl, sym, ap, ◌∙◌}
use Prim.Native.Nat.{ℕ, ◌-◌, ◌^◌, ◌<◌}
use native.Mathlib.Nat.{lt_of_le_of_lt}
use lib.Bits.{bit_and, bit_or, and_le_l, or_lt}
use lib.Dec.{eqb}
use lib.Pow.{pow_pos}
use borrow.Author.Tests.{eqb-true, eq-eqb, not-true}
use Rattle.bits.specs.Bits.{bit, any, all}
use Rattle.bits.specs.Sets.{SetIs, subset, union, meet, meets}
use Rattle.bits.proofs.Truth.{bool_same, and_left, and_right, and_both, implies, implied}
use Rattle.bits.proofs.Quantifiers.{any_intro, any_elim, any_cong, all_intro, all_elim, all_cong, not_any}
use Rattle.bits.proofs.Bits.{bit_zero, bit_ext, set_of_is, set_of_low}
use Rattle.bits.proofs.Operations.{bit_and_lem, bit_or_lem, bit_not, lowest_bit, shifted_weight}

-- ---- subsets

pub subset_intro : (n x y : ℕ) → ((q : ℕ) → q < n → bit x q ≡ true → bit y q ≡ true) → subset n x y ≡ true
unfolding subset
subset_intro n x y h = all_intro (λ q. not (bit x q) || bit y q) n (λ q l. implied (bit x q) (bit y q) (h q l))

pub subset_elim : (n x y q : ℕ) → subset n x y ≡ true → q < n → bit x q ≡ true → bit y q ≡ true
unfolding subset
subset_elim n x y q e l = implies (bit x q) (bit y q) (all_elim (λ q. not (bit x q) || bit y q) n q e l)

pub subset_self : (n x : ℕ) → subset n x x ≡ true
subset_self n x = subset_intro n x x (λ q l e. e)

-- ---- sets that meet, by a common member

pub meets_intro : (n x y q : ℕ) → q < n → bit x q ≡ true → bit y q ≡ true → meets n x y ≡ true
unfolding meets
meets_intro n x y q l e f = any_intro (λ q. bit x q && bit y q) n q l (and_both (bit x q) (bit y q) e f)

pub meets_elim : (n x y : ℕ) → meets n x y ≡ true → (q : ℕ) × (q < n) × (bit x q ≡ true) × (bit y q ≡ true)
unfolding meets
meets_elim n x y e =
    let (q, l, g) = any_elim (λ q. bit x q && bit y q) n e in
    (q, l, and_left (bit x q) (bit y q) g, and_right (bit x q) (bit y q) g)

-- ---- the machine's operations and tests

-- `x | y`
pub union_or : (n x y : ℕ) → x < 2 ^ n → y < 2 ^ n → bit_or x y ≡ union n x y
unfolding union
union_or n x y l m = set_of_is (λ q. bit x q || bit y q) n (bit_or x y) (or_lt n x y l m) (λ q h. bit_or_lem x y q)

and_lt : (n x y : ℕ) → x < 2 ^ n → bit_and x y < 2 ^ n
and_lt n x y l = lt_of_le_of_lt (and_le_l x y) l

-- `x & y`
pub meet_and : (n x y : ℕ) → x < 2 ^ n → bit_and x y ≡ meet n x y
unfolding meet
meet_and n x y l = set_of_is (λ q. bit x q && bit y q) n (bit_and x y) (and_lt n x y l) (λ q h. bit_and_lem x y q)

-- `x & y == x`
pub subset_test : (n x y : ℕ) → x < 2 ^ n → eqb (bit_and x y) x ≡ subset n x y
subset_test n x y l =
    bool_same (eqb (bit_and x y) x) (subset n x y)
    (λ e. subset_intro n x y
    (λ q h p. and_right (bit x q) (bit y q) (sym (bit_and_lem x y q) ∙ ap (λ (z : ℕ). bit z q) (eqb-true (bit_and x y) x e) ∙ p)))
    (λ e. eq-eqb (bit_and x y) x
    (bit_ext n (bit_and x y) x (and_lt n x y l) l
    (λ q h. bit_and_lem x y q
    ∙ bool_same (bit x q && bit y q) (bit x q) (and_left (bit x q) (bit y q)) (λ p. and_both (bit x q) (bit y q) p (subset_elim n x y q e h p)))))

-- `x == 0`: no member
empty_test : (n x : ℕ) → x < 2 ^ n → eqb x 0 ≡ all (λ q. not (bit x q)) n
empty_test n x l =
    bool_same (eqb x 0) (all (λ q. not (bit x q)) n)
    (λ e. all_intro (λ q. not (bit x q)) n (λ q h. ap not (ap (λ (y : ℕ). bit y q) (eqb-true x 0 e) ∙ bit_zero q)))
    (λ e. eq-eqb x 0
    (bit_ext n x 0 l (pow_pos n) (λ q h. not-true (bit x q) (all_elim (λ q. not (bit x q)) n q e h) ∙ sym (bit_zero q))))

-- `x != 0`: some member
nonzero_any : (n x : ℕ) → x < 2 ^ n → not (eqb x 0) ≡ any (bit x) n
nonzero_any n x l = ap not (empty_test n x l ∙ sym (not_any (bit x) n)) ∙ not-not (any (bit x) n)

-- `x & y != 0`
pub meets_test : (n x y : ℕ) → x < 2 ^ n → not (eqb (bit_and x y) 0) ≡ meets n x y
unfolding meets
meets_test n x y l = nonzero_any n (bit_and x y) (and_lt n x y l) ∙ any_cong (bit (bit_and x y)) (λ q. bit x q && bit y q) n (λ q h. bit_and_lem x y q)

-- `x & (z & !y) == 0`: what x has of z is in y
pub subset_apart : (n x y z : ℕ) → x < 2 ^ n → y < 2 ^ n → eqb (bit_and x (bit_and z (2 ^ n - 1 - y))) 0 ≡ subset n (bit_and x z) y
unfolding subset
subset_apart n x y z l m =
    empty_test n outside (and_lt n x (bit_and z (2 ^ n - 1 - y)) l)
    ∙ all_cong (λ q. not (bit outside q)) (λ q. not (bit (bit_and x z) q) || bit y q) n
    (λ q h. simp (bit_and_lem, bit_not y n q m h) (none (bit x q) (bit z q) (bit y q)))
  where
    outside : ℕ
    outside = bit_and x (bit_and z (2 ^ n - 1 - y))

    none : (a b c : Bool) → not (a && (b && not c)) ≡ (not (a && b) || c)
    none true true c = not-not c
    none true false c = refl
    none false b c = refl

-- ---- sets by a property

module _ (n : ℕ) {x y : ℕ} {P Q : ℕ → Type 0} (isP : SetIs n x P) (isQ : SetIs n y Q) where
  pub set_is_subset : ((q : ℕ) → P q → Q q) → subset n x y ≡ true
  set_is_subset f = subset_intro n x y (λ q l e. (isQ.has q (f q (isP.only q l e))).1)

  pub set_is_within : subset n x y ≡ true → (q : ℕ) → P q → Q q
  set_is_within e q p =
      let w = isP.has q p in
      isQ.only q w.0 (subset_elim n x y q e w.0 w.1)

-- what the methods of a set in a word rest on
pub ruleset of_word = (lowest_bit, shifted_weight, union_or, meets_test, set_of_low)
