-- Sets of pairs of numbers below n, by their rows and by their pairs, and the loop that puts row above row. Assumes nothing.
use mathlib.Core.Path.{◌≡◌, sym, ap, ◌∙◌}
use Prim.Native.Nat.{ℕ, zero, suc, ◌+◌, ◌-◌, ◌*◌, ◌/◌, ◌%◌, ◌^◌, ◌<◌, ◌≤◌}
use native.Mathlib.Nat.{mul-zero, mul-suc, pow-zero, pow-suc, lt_trans, mul-le-mul_left}
use native.Mathlib.Numerals.{add-one}
use native.Mathlib.Omega.{arith}
use lib.Bits.{bit_and, and_mask, bit_or, or_shifted_r}
use lib.Pow.{pow_pos, pow-add, shl_exact}
use Rattle.bits.specs.Bits.{digit, pack, bit}
use Rattle.bits.specs.Pairs.{pair, row, pairs}
use Rattle.bits.proofs.Digits.{pack_lt, pack_cong, digit_lt, digit_pack, pack_is}
use Rattle.bits.proofs.Bits.{bit_shr, bit_mod}

module _ (n : ℕ) where
  -- the weight of row q
  pub row_weight : (q : ℕ) → (2 ^ n) ^ q ≡ 2 ^ (n * q)
  row_weight zero = pow-zero (2 ^ n) ∙ ap (λ (e : ℕ). 2 ^ e) (sym (mul-zero n))
  row_weight (suc q) =
      pow-suc (2 ^ n) q ∙ ap (λ (x : ℕ). x * 2 ^ n) (row_weight q) ∙ sym (pow-add 2 (n * q) n) ∙ ap (λ (e : ℕ). 2 ^ e) (sym (mul-suc n q))

  pub row_lt : (c q : ℕ) → row n c q < 2 ^ n
  unfolding row
  row_lt c q = digit_lt (2 ^ n) (pow_pos n) c q

  -- bit q' of row q is the pair (q, q')
  pub bit_row : (c q q' : ℕ) → q' < n → bit (row n c q) q' ≡ pair n c q q'
  unfolding row pair digit
  bit_row c q q' h = rw row_weight (bit_mod (c / 2 ^ (n * q)) n q' h ∙ bit_shr c (n * q) q')

  -- `(c >> n q) & (2 ^ n - 1)`
  pub row_shifted : (c q : ℕ) → row n c q ≡ bit_and (c / 2 ^ (n * q)) (2 ^ n - 1)
  unfolding row digit
  row_shifted c q = rw row_weight (sym (and_mask (c / 2 ^ (n * q)) n))

  pub pairs_lt : (f : ℕ → ℕ) → ((q : ℕ) → q < n → f q < 2 ^ n) → pairs n f < 2 ^ (n * n)
  unfolding pairs
  pairs_lt f l = rw row_weight at (pack_lt (2 ^ n) f n l)

  pub row_pairs : (f : ℕ → ℕ) (q : ℕ) → ((p : ℕ) → p < n → f p < 2 ^ n) → q < n → row n (pairs n f) q ≡ f q
  unfolding row pairs
  row_pairs f q l h = digit_pack (2 ^ n) (pow_pos n) f n q l h

  -- equal rows, equal sets
  pub pairs_cong : (f g : ℕ → ℕ) → ((q : ℕ) → q < n → f q ≡ g q) → pairs n f ≡ pairs n g
  unfolding pairs
  pairs_cong f g same = pack_cong (2 ^ n) f g n same

  pub pairs_is : (f : ℕ → ℕ) (c : ℕ) → c < 2 ^ (n * n) → ((q : ℕ) → q < n → row n c q ≡ f q) → c ≡ pairs n f
  unfolding row pairs
  pairs_is f c l same = pack_is (2 ^ n) (pow_pos n) f n c (rw row_weight l) same

-- ---- the loop over the rows

-- row q is put above the rows below it, as `out | (f q << n q)`
pub row_added : (n : ℕ) (f : ℕ → ℕ) (q : ℕ) → ((p : ℕ) → p < n → f p < 2 ^ n) → q < n
    → bit_or (pack (2 ^ n) f q) (f q * 2 ^ (n * q) % 2 ^ (n * n)) ≡ pack (2 ^ n) f (q + 1)
unfolding pack
row_added n f q l h =
    ap (bit_or below) (shl_exact n (n * q) (n * n) (l q h) fits)
    ∙ or_shifted_r (f q) (n * q) below (rw row_weight at (pack_lt (2 ^ n) f q (λ p m. l p (lt_trans m h))))
    ∙ rw (add-one, row_weight)
  where
    below : ℕ
    below = pack (2 ^ n) f q

    fits : n + n * q ≤ n * n
    fits = omega (arith, mul-le-mul_left n h, mul-suc n q)
