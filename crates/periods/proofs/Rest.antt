-- The successors that are left, the lowest taken out each time: those from i on. Assumes nothing.
use mathlib.Core.Path.{◌≡◌, refl, sym, ap, ◌∙◌}
use mathlib.Core.Bool.{Bool, true, false, false≢true}
use Prim.Native.Nat.{ℕ, ◌+◌, ◌-◌, ◌*◌, ◌/◌, ◌%◌, ◌^◌, ◌≤◌, ◌<◌}
use native.Mathlib.Omega.{arith}
use borrow.Author.Tests.{ltb-true, ltb-false, eqb-true, eqb-false}
use lib.Bits.{bit_and, and_le_l}
use lib.Dec.{ltb, eqb}
use mir.Syntax.{w32}
use Rattle.std.specs.Int.{bit_at, trailing_zeros}
use Rattle.std.proofs.Math.Nat.{div-add-mod, mod-lt, mul_comm}
use Rattle.std.proofs.Math.Pow.{pow-lt}
use Rattle.std.proofs.lemmas.Nat.{pow_pos}
use Rattle.std.proofs.lemmas.Nat.Bits.{bit_at-trailing_zeros, bit_at_and, bit_at-pow_same, bit_at-pow_other, bit_at_ones_above, bit_at_cat_low, bit_at_cat_high, same_from_bits_below}
use Rattle.bits.specs.Bits.{digit, bit, weight}
use Rattle.bits.proofs.Bits.{bit_from, bit_above, bit_zero}

-- ---- `n & (n - 1)`, where q is the place of n's lowest 1

module _ (n q : ℕ) (one : bit_at n q ≡ 1) (none : (j : ℕ) → j < q → bit_at n j ≡ 0) where
  abbrev high : ℕ
  high = n / 2 ^ (q + 1) * 2 ^ (q + 1)

  upper : 2 ^ q < 2 ^ (q + 1)
  upper = pow-lt (omega arith)

  whole : high + n % 2 ^ (q + 1) ≡ n
  whole = ap (λ m. m + n % 2 ^ (q + 1)) (mul_comm (n / 2 ^ (q + 1)) (2 ^ (q + 1))) ∙ div-add-mod n (2 ^ (q + 1))

  lowest_part : n % 2 ^ (q + 1) ≡ 2 ^ q
  lowest_part =
      same_from_bits_below (q + 1) (n % 2 ^ (q + 1)) (2 ^ q) (mod-lt n (pow_pos (q + 1))) upper (λ i l. sym (bit_at_cat_low (n / 2 ^ (q + 1)) (q + 1) (n % 2 ^ (q + 1)) i l) ∙ ap (λ m. bit_at m i) whole ∙ at i l (eqb i q) refl)
    where
      at : (i : ℕ) → i < q + 1 → (b : Bool) → eqb i q ≡ b → bit_at n i ≡ bit_at (2 ^ q) i
      at i l true e = let same = eqb-true i q e in rw same (one ∙ sym (bit_at-pow_same q))
      at i l false e = none i (omega (arith, eqb-false i q e)) ∙ sym (bit_at-pow_other q i (eqb-false i q e))

  before : n - 1 ≡ high + (2 ^ q - 1)
  before = omega (arith, whole, lowest_part, pow_pos q)

  lowest_gone : bit_at (bit_and n (n - 1)) q ≡ 0
  lowest_gone =
      let gone = ap (λ m. bit_at m q) before ∙ bit_at_cat_low (n / 2 ^ (q + 1)) (q + 1) (2 ^ q - 1) q (omega arith) ∙ bit_at_ones_above q q (omega arith) in
      omega (arith, bit_at_and n (n - 1) q, gone)

  others_kept : (i : ℕ) → (i ≡ q → ⊥) → bit_at (bit_and n (n - 1)) i ≡ bit_at n i
  others_kept i apart = at (ltb i q) refl
    where
      at : (b : Bool) → ltb i q ≡ b → bit_at (bit_and n (n - 1)) i ≡ bit_at n i
      at true e = omega (arith, bit_at_and n (n - 1) i, none i (ltb-true i q e))
      at false e =
          let past : q + 1 ≤ i = omega (arith, ltb-false i q e, apart) in
          let less = ap (λ m. bit_at m i) before ∙ bit_at_cat_high (n / 2 ^ (q + 1)) (q + 1) (2 ^ q - 1) i (omega (arith, upper)) past in
          let all = ap (λ m. bit_at m i) (sym whole ∙ ap (λ m. high + m) lowest_part) ∙ bit_at_cat_high (n / 2 ^ (q + 1)) (q + 1) (2 ^ q) i upper past in
          omega (arith, bit_at_and n (n - 1) i, less, all)

-- `rest` has the members of x from i on
pub record Rest (x i rest : ℕ) : Type 0 where
  pub within : i ≤ 16
  pub short : rest < 2 ^ 16
  pub below : (j : ℕ) → j < i → bit rest j ≡ false
  pub above : (j : ℕ) → i ≤ j → j < 16 → bit rest j ≡ bit x j

pub rest_start : (x : ℕ) → x < 2 ^ 16 → Rest x 0 x
rest_start x l = record { within = omega arith; short = l; below = λ j h. absurd (omega arith); above = λ j l h. refl }

module _ {x i rest : ℕ} (r : Rest x i rest) where
  -- none is left
  pub rest_none : rest ≡ 0 → (j : ℕ) → i ≤ j → j < 16 → bit x j ≡ false
  rest_none e j l h = sym (r.above j l h) ∙ ap (λ (y : ℕ). bit y j) e ∙ bit_zero j

  -- the lowest is at q
  module _ (some : 0 < rest) {q : ℕ} (is : q ≡ trailing_zeros w32 rest) where
    lowest : (bit_at rest q ≡ 1) × ((j : ℕ) → j < q → bit_at rest j ≡ 0)
    lowest = let at = bit_at-trailing_zeros w32 rest some (omega (arith, r.short)) in rw is (at.1, at.2)

    at_q : bit rest q ≡ true
    unfolding bit digit weight
    at_q = bit_from rest q true lowest.0

    under_q : (j : ℕ) → j < q → bit rest j ≡ false
    unfolding bit digit weight
    under_q j h = bit_from rest j false (lowest.1 j h)

    pub low : q < 16
    low = at (ltb q 16) refl
      where
        at : (b : Bool) → ltb q 16 ≡ b → q < 16
        at true e = ltb-true q 16 e
        at false e = absurd (false≢true (sym (bit_above rest 16 q r.short (ltb-false q 16 e)) ∙ at_q))

    pub from_i : i ≤ q
    from_i = at (ltb q i) refl
      where
        at : (b : Bool) → ltb q i ≡ b → i ≤ q
        at true e = absurd (false≢true (sym (r.below q (ltb-true q i e)) ∙ at_q))
        at false e = ltb-false q i e

    pub here : bit x q ≡ true
    here = sym (r.above q from_i low) ∙ at_q

    pub between : (j : ℕ) → i ≤ j → j < q → bit x j ≡ false
    between j l h = sym (r.above j l (omega (arith, low))) ∙ under_q j h

    -- q is taken out
    abbrev left : ℕ
    left = bit_and rest (rest - 1)

    taken : bit left q ≡ false
    unfolding bit digit weight
    taken = bit_from left q false (lowest_gone rest q lowest.0 lowest.1)

    others : (j : ℕ) → j < 16 → (j ≡ q → ⊥) → bit left j ≡ bit rest j
    unfolding bit digit
    others j h n = ap (λ (d : ℕ). eqb d 1) (others_kept rest q lowest.0 lowest.1 j n)

    pub less : left < rest
    less = strict left (and_le_l rest (rest - 1)) taken
      where
        strict : (y : ℕ) → y ≤ rest → bit y q ≡ false → y < rest
        strict y l f = at (ltb y rest) refl
          where
            at : (b : Bool) → ltb y rest ≡ b → y < rest
            at true e = ltb-true y rest e
            at false e = absurd (false≢true (sym f ∙ ap (λ (z : ℕ). bit z q) (omega (arith, ltb-false y rest e)) ∙ at_q))

    pub rest_on : Rest x (q + 1) left
    rest_on = record {
      within = omega (arith, low);
      short = omega (arith, r.short, and_le_l rest (rest - 1));
      below = λ j h. at j h (eqb j q) refl;
      above = λ j l h. others j h (λ e. omega arith) ∙ r.above j (omega (arith, from_i)) h;
    }
      where
        at : (j : ℕ) → j < q + 1 → (b : Bool) → eqb j q ≡ b → bit left j ≡ false
        at j h true e = ap (bit left) (eqb-true j q e) ∙ taken
        at j h false e = others j (omega (arith, low)) (eqb-false j q e) ∙ under_q j (omega (arith, eqb-false j q e))
