-- Numbers by their bits, the digits to the base 2 as truth values: a number below 2 ^ n is known by its n bits. Assumes nothing.
use mathlib.Core.Bool.{Bool, true, false}
use mathlib.Core.Path.{◌≡◌, refl, sym, ap, ◌∙◌}
use Prim.Native.Nat.{ℕ, zero, suc, ◌+◌, ◌*◌, ◌/◌, ◌%◌, ◌^◌, ◌≤◌, ◌<◌, zero-le}
use native.Mathlib.Nat.{mul-mod_left, mod-lt}
use native.Mathlib.Omega.{arith}
use lib.Dec.{eqb, lit<}
use lib.Pow.{pow_pos, shl-shr}
use Rattle.bits.specs.Bits.{digit, pack, bit, weight, set_of}
use Rattle.bits.proofs.Digits.{pack_lt, pack_cong, digit_lt, digit_shr, digit_mod, digit_above, digit_pack, pack_is}

two : 0 < 2
two = lit< tt

-- ---- a digit to the base 2 is a truth value

small_weight : (d : ℕ) → d < 2 → d ≡ weight (eqb d 1)
unfolding weight
small_weight zero h = refl
small_weight (suc zero) h = refl
small_weight (suc (suc d)) h = absurd (omega arith)

pub weight_lt : (b : Bool) → weight b < 2
unfolding weight
weight_lt true = lit< tt
weight_lt false = lit< tt

weight_same : (b : Bool) → eqb (weight b) 1 ≡ b
unfolding weight
weight_same true = refl
weight_same false = refl

-- the digit at place i is that of bit i
pub digit_bit : (x i : ℕ) → digit 2 x i ≡ weight (bit x i)
unfolding bit
digit_bit x i = small_weight (digit 2 x i) (digit_lt 2 two x i)

-- bit i by its digit
pub bit_from : (x i : ℕ) (b : Bool) → digit 2 x i ≡ weight b → bit x i ≡ b
unfolding bit
bit_from x i b e = ap (λ (d : ℕ). eqb d 1) e ∙ weight_same b

-- ---- shifts and remainders by a power

pub bit_shr : (a k i : ℕ) → bit (a / 2 ^ k) i ≡ bit a (k + i)
unfolding bit
bit_shr a k i = ap (λ (d : ℕ). eqb d 1) (digit_shr 2 two a k i)

pub bit_shl : (a k i : ℕ) → bit (a * 2 ^ k) (k + i) ≡ bit a i
bit_shl a k i = sym (bit_shr (a * 2 ^ k) k i) ∙ ap (λ (x : ℕ). bit x i) (shl-shr a k)

pub bit_mod : (a k i : ℕ) → i < k → bit (a % 2 ^ k) i ≡ bit a i
unfolding bit
bit_mod a k i h = ap (λ (d : ℕ). eqb d 1) (digit_mod 2 two a k i h)

pub bit_above : (a k i : ℕ) → a < 2 ^ k → k ≤ i → bit a i ≡ false
unfolding weight
bit_above a k i h l = bit_from a i false (digit_above 2 two a k i h l)

pub bit_zero : (i : ℕ) → bit 0 i ≡ false
bit_zero i = bit_above 0 0 i (pow_pos 0) zero-le

pub bit_shl_below : (a k i : ℕ) → i < k → bit (a * 2 ^ k) i ≡ false
bit_shl_below a k i h = sym (bit_mod (a * 2 ^ k) k i h) ∙ ap (λ (x : ℕ). bit x i) (mul-mod_left a (2 ^ k)) ∙ bit_zero i

-- ---- the set of the numbers that have f

pub set_of_lt : (f : ℕ → Bool) (n : ℕ) → set_of f n < 2 ^ n
unfolding set_of
set_of_lt f n = pack_lt 2 (λ i. weight (f i)) n (λ i h. weight_lt (f i))

pub bit_set_of : (f : ℕ → Bool) (n i : ℕ) → i < n → bit (set_of f n) i ≡ f i
unfolding set_of
bit_set_of f n i h = bit_from (pack 2 (λ i. weight (f i)) n) i (f i) (digit_pack 2 two (λ i. weight (f i)) n i (λ j l. weight_lt (f j)) h)

pub set_of_cong : (f g : ℕ → Bool) (n : ℕ) → ((i : ℕ) → i < n → f i ≡ g i) → set_of f n ≡ set_of g n
unfolding set_of
set_of_cong f g n same = pack_cong 2 (λ i. weight (f i)) (λ i. weight (g i)) n (λ i h. ap weight (same i h))

-- a number below 2 ^ n is known by its bits
pub set_of_is : (f : ℕ → Bool) (n x : ℕ) → x < 2 ^ n → ((i : ℕ) → i < n → bit x i ≡ f i) → x ≡ set_of f n
unfolding set_of
set_of_is f n x l same = pack_is 2 two (λ i. weight (f i)) n x l (λ i h. digit_bit x i ∙ ap weight (same i h))

pub set_of_bits : (n x : ℕ) → x < 2 ^ n → set_of (bit x) n ≡ x
set_of_bits n x l = sym (set_of_is (bit x) n x l (λ i h. refl))

-- what x has below n
pub set_of_low : (n x : ℕ) → set_of (bit x) n ≡ x % 2 ^ n
set_of_low n x = sym (set_of_is (bit x) n (x % 2 ^ n) (mod-lt x (pow_pos n)) (λ i h. bit_mod x n i h))

pub bit_ext : (n x y : ℕ) → x < 2 ^ n → y < 2 ^ n → ((i : ℕ) → i < n → bit x i ≡ bit y i) → x ≡ y
bit_ext n x y l m same = set_of_is (bit y) n x l same ∙ set_of_bits n y m
