-- The machine's operations on sets of pairs, row by row; a column of states times a row is all pairs of the two. Assumes nothing.
use mathlib.Core.Bool.{◌&&◌}
use mathlib.Core.Path.{◌≡◌, refl, ap, ap₂, ◌∙◌}
use Prim.Native.Nat.{ℕ, zero, suc, ◌+◌, ◌*◌, ◌/◌, ◌%◌, ◌^◌, ◌<◌, zero-le}
use native.Mathlib.Nat.{add-mul, mul_right_comm, zero-mul, lt_of_le_of_lt}
use native.Mathlib.Omega.{arith}
use lib.Bits.{bit_and, bit_or, and_shr, and_mod, or_shr, or_mod, and_le_l, and_le_r, or_lt}
use lib.Pow.{pow-lt, pow_pos}
use Rattle.bits.specs.Bits.{digit, pack, bit, weight}
use Rattle.bits.specs.Sets.{union, meet}
use Rattle.bits.specs.Pairs.{pair, row, pairs}
use Rattle.bits.proofs.Digits.{power_pos, digit_above}
use Rattle.bits.proofs.Bits.{bit_shr, set_of_lt}
use Rattle.bits.proofs.Operations.{weighed_lt}
use Rattle.bits.proofs.Sets.{union_or, meet_and}
use Rattle.bits.proofs.Pairs.{row_weight, row_lt, bit_row, pairs_lt, row_pairs, pairs_cong, pairs_is}
use Rattle.automata.specs.Repeated.{led_on}
use Rattle.automata.proofs.Members.{and_lowest}

pub meet_lt : (n x y : ℕ) → meet n x y < 2 ^ n
unfolding meet
meet_lt n x y = set_of_lt (λ q. bit x q && bit y q) n

times_pack : (c : ℕ) (d : ℕ → ℕ) (y n : ℕ) → pack c d n * y ≡ pack c (λ i. d i * y) n
unfolding pack
times_pack c d y zero = zero-mul y
times_pack c d y (suc n) = add-mul (d n * c ^ n) (pack c d n) y ∙ ap₂ ◌+◌ (mul_right_comm (d n) (c ^ n) y) (times_pack c d y n)

module _ (n : ℕ) where
  pub row_zero : (q : ℕ) → row n 0 q ≡ 0
  unfolding row
  row_zero q = digit_above (2 ^ n) (pow_pos n) 0 0 q (power_pos (2 ^ n) (pow_pos n) 0) zero-le

  row_or : (c d q : ℕ) → row n (bit_or c d) q ≡ bit_or (row n c q) (row n d q)
  unfolding row digit
  row_or c d q = rw row_weight (ap (λ (x : ℕ). x % 2 ^ n) (or_shr c d (n * q)) ∙ or_mod (c / 2 ^ (n * q)) (d / 2 ^ (n * q)) n)

  row_and : (c d q : ℕ) → row n (bit_and c d) q ≡ bit_and (row n c q) (row n d q)
  unfolding row digit
  row_and c d q = rw row_weight (ap (λ (x : ℕ). x % 2 ^ n) (and_shr c d (n * q)) ∙ and_mod (c / 2 ^ (n * q)) (d / 2 ^ (n * q)) n)

  -- a number of n * n bits has its rows
  pairs_rows : (c : ℕ) → c < 2 ^ (n * n) → c ≡ pairs n (row n c)
  pairs_rows c l = pairs_is n (row n c) c l (λ q h. refl)

  -- `|` and `&`
  module _ (f g : ℕ → ℕ) (small : (q : ℕ) → q < n → f q < 2 ^ n) (small' : (q : ℕ) → q < n → g q < 2 ^ n) where
    or_pairs : bit_or (pairs n f) (pairs n g) ≡ pairs n (λ q. bit_or (f q) (g q))
    or_pairs =
        pairs_is n (λ q. bit_or (f q) (g q)) (bit_or (pairs n f) (pairs n g))
        (or_lt (n * n) (pairs n f) (pairs n g) (pairs_lt n f small) (pairs_lt n g small'))
        (λ q h. row_or (pairs n f) (pairs n g) q ∙ ap₂ bit_or (row_pairs n f q small h) (row_pairs n g q small' h))

    pub and_pairs : bit_and (pairs n f) (pairs n g) ≡ pairs n (λ q. bit_and (f q) (g q))
    and_pairs =
        pairs_is n (λ q. bit_and (f q) (g q)) (bit_and (pairs n f) (pairs n g))
        (lt_of_le_of_lt (and_le_l (pairs n f) (pairs n g)) (pairs_lt n f small))
        (λ q h. row_and (pairs n f) (pairs n g) q ∙ ap₂ bit_and (row_pairs n f q small h) (row_pairs n g q small' h))

  -- the same with a number of n * n bits, by its rows
  module _ (r : ℕ) (g : ℕ → ℕ) (fits : r < 2 ^ (n * n)) (small : (q : ℕ) → q < n → g q < 2 ^ n) where
    pub or_rows : bit_or r (pairs n g) ≡ pairs n (λ q. union n (row n r q) (g q))
    or_rows =
        ap (λ (x : ℕ). bit_or x (pairs n g)) (pairs_rows r fits) ∙ or_pairs (row n r) g (λ q h. row_lt n r q) small
        ∙ pairs_cong n (λ q. bit_or (row n r q) (g q)) (λ q. union n (row n r q) (g q)) (λ q h. union_or n (row n r q) (g q) (row_lt n r q) (small q h))

    and_rows : bit_and r (pairs n g) ≡ pairs n (λ q. meet n (row n r q) (g q))
    and_rows =
        ap (λ (x : ℕ). bit_and x (pairs n g)) (pairs_rows r fits) ∙ and_pairs (row n r) g (λ q h. row_lt n r q) small
        ∙ pairs_cong n (λ q. bit_and (row n r q) (g q)) (λ q. meet n (row n r q) (g q)) (λ q h. meet_and n (row n r q) (g q) (row_lt n r q))

  -- `before | (reach & a)`, a in each row
  pub or_and_rows : (before reach a : ℕ) → before < 2 ^ (n * n) → reach < 2 ^ (n * n) → a < 2 ^ n
      → bit_or before (bit_and reach (pairs n (λ q. a))) ≡ pairs n (λ q. union n (row n before q) (meet n (row n reach q) a))
  or_and_rows before reach a l m k =
      ap (bit_or before) (and_rows reach (λ q. a) m (λ q h. k)) ∙ or_rows before (λ q. meet n (row n reach q) a) l (λ q h. meet_lt n (row n reach q) a)

  times_pairs : (f : ℕ → ℕ) (y : ℕ) → pairs n f * y ≡ pairs n (λ q. f q * y)
  unfolding pairs
  times_pairs f y = times_pack (2 ^ n) f y n

  -- ---- column p of c, times a row y

  module _ (c p y : ℕ) (h : p < n) (l : y < 2 ^ n) where
    -- the lowest bit of each row of `c >> p`
    lowest : (q : ℕ) → bit_and (row n (c / 2 ^ p) q) 1 ≡ weight (pair n c q p)
    unfolding pair
    lowest q =
        and_lowest (row n (c / 2 ^ p) q)
        ∙ ap weight (bit_row n (c / 2 ^ p) q 0 (omega arith) ∙ bit_shr c p (n * q + 0) ∙ ap (bit c) place)
      where
        place : p + (n * q + 0) ≡ n * q + p
        place = omega arith

    -- `(c >> p) & 0x0101..`
    column : bit_and (c / 2 ^ p) (pairs n (λ q. 1)) ≡ pairs n (λ q. weight (pair n c q p))
    column =
        pairs_is n (λ q. weight (pair n c q p)) (bit_and (c / 2 ^ p) (pairs n (λ q. 1)))
        (lt_of_le_of_lt (and_le_r (c / 2 ^ p) (pairs n (λ q. 1))) (pairs_lt n (λ q. 1) one))
        (λ q l. row_and (c / 2 ^ p) (pairs n (λ q. 1)) q ∙ ap (bit_and (row n (c / 2 ^ p) q)) (row_pairs n (λ q. 1) q one l) ∙ lowest q)
      where
        one : (q : ℕ) → q < n → 1 < 2 ^ n
        one q l = pow-lt {i = 0} (omega arith)

    column_times : bit_and (c / 2 ^ p) (pairs n (λ q. 1)) * y ≡ pairs n (λ q. weight (pair n c q p) * y)
    column_times = ap (λ (x : ℕ). x * y) column ∙ times_pairs (λ q. weight (pair n c q p)) y

    pub led_on_lem : (r : ℕ) → r < 2 ^ (n * n) → bit_or r (bit_and (c / 2 ^ p) (pairs n (λ q. 1)) * y) ≡ led_on n r c p y
    unfolding led_on
    led_on_lem r m = ap (bit_or r) column_times ∙ or_rows r (λ q. weight (pair n c q p) * y) m (λ q h. weighed_lt (pair n c q p) l)
