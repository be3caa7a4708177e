-- What the machine's operations do to each bit, over the width. Assumes nothing.
use mathlib.Core.Bool.{Bool, true, false, not, ◌&&◌, ◌||◌}
use mathlib.Core.Logic.{⊎_elim}
use mathlib.Core.Path.{◌≡◌, refl, sym, ap, ap₂, ◌∙◌}
use Prim.Native.Nat.{ℕ, zero, suc, ◌+◌, ◌-◌, ◌*◌, ◌/◌, ◌%◌, ◌^◌, ◌≤◌, ◌<◌, zero-le, suc-le-suc}
use native.Mathlib.Nat.{zero-mul, one-mul, pow-suc, mod-eq_of_lt}
use native.Mathlib.Omega.{arith}
use lib.Bits.{bit_and, bit_or, and_mask, and_shr, or_shr, and_mod, or_mod}
use lib.Dec.{eqb, lit<, eqb-zero-suc}
use Rattle.std.proofs.lemmas.Grind.{low_zeros}
use lib.Pow.{pow-lt}
use borrow.Author.Tests.{eqb-true, eq-eqb, ne_eqb}
use mir.Val.{bool_byte}
use Rattle.bits.specs.Bits.{digit, pack, bit, weight, set_of}
use Rattle.bits.proofs.Truth.{bool_same}
use Rattle.bits.proofs.Digits.{lt_or_ge}
use Rattle.bits.proofs.Bits.{digit_bit, bit_from, bit_shl, bit_shl_below, bit_above, bit_zero, set_of_bits, bit_set_of}

-- ---- a bit, shifted to the lowest place

-- `(x >> q) & 1`
pub lowest_weight : (x q : ℕ) → bit_and (x / 2 ^ q) 1 ≡ weight (bit x q)
unfolding digit
lowest_weight x q = and_mask (x / 2 ^ q) 1 ∙ digit_bit x q

-- `(x >> q) & 1 == 1`
pub lowest_bit : (x q : ℕ) → eqb (bit_and (x / 2 ^ q) 1) 1 ≡ bit x q
unfolding bit digit
lowest_bit x q = ap (λ (d : ℕ). eqb d 1) (and_mask (x / 2 ^ q) 1)

-- ---- the machine's `&` and `|`

module _ (op : ℕ → ℕ → ℕ) (opb : Bool → Bool → Bool)
    (shr : (a b k : ℕ) → op a b / 2 ^ k ≡ op (a / 2 ^ k) (b / 2 ^ k))
    (rem : (a b k : ℕ) → op a b % 2 ^ k ≡ op (a % 2 ^ k) (b % 2 ^ k))
    (on-weights : (p q : Bool) → op (weight p) (weight q) ≡ weight (opb p q)) where
  bit_op : (a b i : ℕ) → bit (op a b) i ≡ opb (bit a i) (bit b i)
  unfolding digit
  bit_op a b i =
      bit_from (op a b) i (opb (bit a i) (bit b i))
      (ap (λ (x : ℕ). x % 2) (shr a b i) ∙ rem (a / 2 ^ i) (b / 2 ^ i) 1 ∙ ap₂ op (digit_bit a i) (digit_bit b i)
      ∙ on-weights (bit a i) (bit b i))

and_weights : (p q : Bool) → bit_and (weight p) (weight q) ≡ weight (p && q)
unfolding weight
and_weights true true = refl
and_weights true false = refl
and_weights false q = refl

or_weights : (p q : Bool) → bit_or (weight p) (weight q) ≡ weight (p || q)
unfolding weight
or_weights true true = refl
or_weights true false = refl
or_weights false q = refl

pub bit_and_lem : (a b i : ℕ) → bit (bit_and a b) i ≡ (bit a i && bit b i)
bit_and_lem = bit_op bit_and ◌&&◌ and_shr and_mod and_weights

pub bit_or_lem : (a b i : ℕ) → bit (bit_or a b) i ≡ (bit a i || bit b i)
bit_or_lem = bit_op bit_or ◌||◌ or_shr or_mod or_weights

-- ---- the machine's `!`

-- a set and its complement make up all n bits
both_weights : (b : Bool) (m : ℕ) → weight b * m + weight (not b) * m ≡ m
unfolding weight
both_weights true m = omega arith
both_weights false m = omega arith

set_of_not : (f : ℕ → Bool) (n : ℕ) → suc (set_of f n + set_of (λ i. not (f i)) n) ≡ 2 ^ n
unfolding set_of pack
set_of_not f zero = refl
set_of_not f (suc n) = omega (arith, pow-suc 2 n, set_of_not f n, both_weights (f n) (2 ^ n))

pub bit_not : (a n i : ℕ) → a < 2 ^ n → i < n → bit (2 ^ n - 1 - a) i ≡ not (bit a i)
bit_not a n i h l = ap (λ (x : ℕ). bit x i) complement ∙ bit_set_of (λ k. not (bit a k)) n i l
  where
    complement : 2 ^ n - 1 - a ≡ set_of (λ k. not (bit a k)) n
    complement = omega (arith, set_of_not (bit a) n, set_of_bits n a h)

-- ---- one member

bit_one : (j : ℕ) → bit 1 j ≡ eqb 0 j
unfolding bit digit
bit_one zero = refl
bit_one (suc j) = bit_above 1 1 (suc j) (lit< tt) (suc-le-suc zero-le) ∙ sym (eqb-zero-suc j)

pub bit_power : (q i : ℕ) → bit (2 ^ q) i ≡ eqb q i
bit_power q i =
    ap (λ (x : ℕ). bit x i) (sym (one-mul (2 ^ q)))
    ∙ ⊎_elim
    (λ l. bit_shl_below 1 q i l ∙ sym (ne_eqb q i (λ (e : q ≡ i). omega arith)))
    (λ l. ap (bit (1 * 2 ^ q)) (place l) ∙ bit_shl 1 q (i - q) ∙ bit_one (i - q) ∙ same l)
    (lt_or_ge i q)
  where
    place : q ≤ i → i ≡ q + (i - q)
    place l = omega arith

    same : q ≤ i → eqb 0 (i - q) ≡ eqb q i
    same l =
        bool_same (eqb 0 (i - q)) (eqb q i)
        (λ e. let z = eqb-true 0 (i - q) e in eq-eqb q i (omega arith))
        (λ e. let z = eqb-true q i e in eq-eqb 0 (i - q) (omega arith))

-- a number weighed by a truth value: itself, or nothing
pub weighed_lt : (b : Bool) {y m : ℕ} → y < m → weight b * y < m
unfolding weight
weighed_lt true {y} l = rw one-mul l
weighed_lt false {y} l = rw zero-mul (omega arith)

pub bit_weighed : (b : Bool) (y i : ℕ) → bit (weight b * y) i ≡ (b && bit y i)
unfolding weight
bit_weighed true y i = ap (λ (x : ℕ). bit x i) (one-mul y)
bit_weighed false y i = ap (λ (x : ℕ). bit x i) (zero-mul y) ∙ bit_zero i

-- ---- a test as a truth value

-- `b as` a number
as_weight : (b : Bool) → bool_byte b ≡ weight b
unfolding weight
as_weight true = refl
as_weight false = refl

-- shifted to the place q, where `suc m` is 2 to the width, as a written-out number
pub shifted_weight : (b : Bool) (q m : ℕ) → suc m ≡ 2 ^ low_zeros 128 (suc m) → q < low_zeros 128 (suc m) → bool_byte b * 2 ^ q % suc m ≡ weight b * 2 ^ q
shifted_weight b q m e l = rw (as_weight, e) (mod-eq_of_lt (weighed_lt b (pow-lt l)))
