-- One member of a set: taken out of it, and put in. Assumes nothing.
use mathlib.Core.Bool.{Bool, true, ◌&&◌}
use mathlib.Core.Path.{◌≡◌, sym, ap, ◌∙◌}
use Prim.Native.Nat.{ℕ, ◌+◌, ◌*◌, ◌%◌, ◌^◌, ◌<◌}
use native.Mathlib.Nat.{lt_of_le_of_lt, one-mul, div-one, mod-eq_of_lt}
use native.Mathlib.Numerals.{add-one}
use borrow.Author.Tests.{eqb-true}
use lib.Bits.{bit_and, bit_or, and_mask, and_le_r, or_shifted_r}
use lib.Dec.{eqb}
use lib.Pow.{pow-lt}
use Rattle.bits.specs.Bits.{digit, pack, bit, weight, set_of}
use Rattle.bits.proofs.Truth.{bool_same, and_left, and_right, and_both}
use Rattle.bits.proofs.Bits.{digit_bit, bit_ext, set_of_lt}
use Rattle.bits.proofs.Operations.{bit_and_lem, bit_power, weighed_lt, bit_weighed}

-- ---- taken out

-- `x & 1`
pub and_lowest : (x : ℕ) → bit_and x 1 ≡ weight (bit x 0)
unfolding digit
and_lowest x = and_mask x 1 ∙ ap (λ (y : ℕ). y % 2) (sym (div-one x)) ∙ digit_bit x 0

-- q alone, if it is a member
pub and_power : (n x q : ℕ) → q < n → bit_and x (2 ^ q) ≡ weight (bit x q) * 2 ^ q
and_power n x q h =
    bit_ext n (bit_and x (2 ^ q)) (weight (bit x q) * 2 ^ q) (lt_of_le_of_lt (and_le_r x (2 ^ q)) (pow-lt h)) (weighed_lt (bit x q) (pow-lt h))
    (λ i l. bit_and_lem x (2 ^ q) i ∙ ap (λ (b : Bool). bit x i && b) (bit_power q i) ∙ same i
    ∙ ap (λ (b : Bool). bit x q && b) (sym (bit_power q i)) ∙ sym (bit_weighed (bit x q) (2 ^ q) i))
  where
    at : (i : ℕ) → eqb q i ≡ true → bit x q ≡ bit x i
    at i e = ap (bit x) (eqb-true q i e)

    same : (i : ℕ) → (bit x i && eqb q i) ≡ (bit x q && eqb q i)
    same i =
        bool_same (bit x i && eqb q i) (bit x q && eqb q i)
        (λ e. let m = and_right (bit x i) (eqb q i) e in and_both (bit x q) (eqb q i) (at i m ∙ and_left (bit x i) (eqb q i) e) m)
        (λ e. let m = and_right (bit x q) (eqb q i) e in and_both (bit x i) (eqb q i) (sym (at i m) ∙ and_left (bit x q) (eqb q i) e) m)

-- `1 << q`
pub shifted_one : (n q : ℕ) → q < n → 1 * 2 ^ q % 2 ^ n ≡ 2 ^ q
shifted_one n q h = ap (λ (y : ℕ). y % 2 ^ n) (one-mul (2 ^ q)) ∙ mod-eq_of_lt (pow-lt h)

-- ---- put in

-- the next state, which is put in exactly if it has f
pub put_in : (f : ℕ → Bool) (q : ℕ) → bit_or (set_of f q) (weight (f q) * 2 ^ q) ≡ set_of f (q + 1)
unfolding set_of pack
put_in f q = or_shifted_r (weight (f q)) q (set_of f q) (set_of_lt f q) ∙ rw add-one
