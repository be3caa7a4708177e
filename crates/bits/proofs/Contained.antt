-- Containment on the rows of a set, and the machine's test of it, over the width. Assumes nothing.
use mathlib.Core.Bool.{Bool, true, false, not, ◌&&◌, ◌||◌}
use mathlib.Core.Path.{◌≡◌, refl, sym, ap, ◌∙◌, subst}
use Prim.Native.Nat.{ℕ, zero, suc, ◌+◌, ◌-◌, ◌*◌, ◌/◌, ◌%◌, ◌^◌, ◌<◌}
use native.Mathlib.Nat.{mod-lt, mul_comm, sub-zero, div-add-mod, div-lt_iff_lt-mul, zero-mul, one-mul}
use native.Mathlib.Omega.{arith}
use lib.Arith.{digits_lt}
use lib.Bits.{bit_and, bit_or}
use lib.Dec.{eqb}
use lib.Pow.{pow_pos, ones_lt}
use Rattle.bits.specs.Bits.{pack, bit, weight}
use Rattle.bits.specs.Sets.{subset}
use Rattle.bits.specs.Pairs.{pair, row, pairs, rows_of, contained_on}
use Rattle.bits.proofs.Truth.{bool_same, and_left, and_right, and_both, implies, implied}
use Rattle.bits.proofs.Quantifiers.{all_intro, all_elim}
use Rattle.bits.proofs.Bits.{bit_zero}
use Rattle.bits.proofs.Operations.{lowest_weight, bit_and_lem, bit_not}
use Rattle.bits.proofs.Sets.{subset_intro, subset_elim, subset_self, subset_apart}
use Rattle.bits.proofs.Pairs.{bit_row, row_pairs, row_added}

-- ---- the rows of a set

-- row q of the rows of x: all of it, or none
unfoldable pub full_row : ℕ → ℕ → ℕ → ℕ
full_row n x q = weight (bit x q) * (2 ^ n - 1)

full_lt : (n : ℕ) (b : Bool) → weight b * (2 ^ n - 1) < 2 ^ n
unfolding weight
full_lt n true = rw one-mul (ones_lt n)
full_lt n false = rw zero-mul (pow_pos n)

bit_full : (n : ℕ) (b : Bool) (q : ℕ) → q < n → bit (weight b * (2 ^ n - 1)) q ≡ b
unfolding weight
bit_full n true q h = rw (one-mul, ← sub-zero (2 ^ n - 1)) (bit_not 0 n q (pow_pos n) h ∙ ap not (bit_zero q))
bit_full n false q h = rw zero-mul (bit_zero q)

full_row_lt : (n x q : ℕ) → full_row n x q < 2 ^ n
unfolding full_row
full_row_lt n x q = full_lt n (bit x q)

-- the pairs that start in x
pair_rows_of : (n x q q' : ℕ) → q < n → q' < n → pair n (rows_of n x) q q' ≡ bit x q
unfolding rows_of full_row
pair_rows_of n x q q' h h' =
    sym (bit_row n (rows_of n x) q q' h') ∙ ap (λ (y : ℕ). bit y q') (row_pairs n (full_row n x) q (λ p l. full_row_lt n x p) h)
    ∙ bit_full n (bit x q) q' h'

-- ---- the loop that puts the rows of x one above the other

-- those below q
unfoldable pub full_below : ℕ → ℕ → ℕ → ℕ
full_below n x q = pack (2 ^ n) (full_row n x) q

pub full_none : (n x : ℕ) → full_below n x 0 ≡ 0
unfolding full_below pack
full_none n x = refl

pub full_more : (n x q : ℕ) → q < n
    → full_below n x (q + 1) ≡ bit_or (full_below n x q) (bit_and (x / 2 ^ q) 1 * (2 ^ n - 1) * 2 ^ (n * q) % 2 ^ (n * n))
unfolding full_below full_row
full_more n x q l = rw lowest_weight (sym (row_added n (full_row n x) q (λ p h. full_row_lt n x p) l))

pub full_all : (n x q : ℕ) → q ≡ n → full_below n x q ≡ rows_of n x
unfolding full_below full_row rows_of pairs
full_all n x q e = ap (pack (2 ^ n) (full_row n x)) e

-- what that loop rests on
pub ruleset row_by_row = (full_none, full_more, full_all)

-- ---- containment, row by row

module _ (n x c d : ℕ) where
  pub contained_on_intro : ((q : ℕ) → q < n → bit x q ≡ true → subset n (row n c q) (row n d q) ≡ true) → contained_on n x c d ≡ true
  unfolding contained_on
  contained_on_intro h =
      all_intro (λ q. not (bit x q) || subset n (row n c q) (row n d q)) n
      (λ q l. implied (bit x q) (subset n (row n c q) (row n d q)) (h q l))

  pub contained_on_elim : (q : ℕ) → contained_on n x c d ≡ true → q < n → bit x q ≡ true → subset n (row n c q) (row n d q) ≡ true
  unfolding contained_on
  contained_on_elim q e l =
      implies (bit x q) (subset n (row n c q) (row n d q)) (all_elim (λ q. not (bit x q) || subset n (row n c q) (row n d q)) n q e l)

pub contained_on_self : (n x c : ℕ) → contained_on n x c c ≡ true
contained_on_self n x c = contained_on_intro n x c c (λ q l e. subset_self n (row n c q))

-- ---- the test

place_lt : (n q q' : ℕ) → q < n → q' < n → n * q + q' < n * n
place_lt n q q' h h' = rw (mul_comm n q) (digits_lt h h')

-- each place below n * n is that of a pair
data Place (n : ℕ) : ℕ → Type 0 where
  at : (q q' : ℕ) → q < n → q' < n → Place n (n * q + q')

place : (n i : ℕ) → i < n * n → Place n i
place zero i h = absurd (omega arith)
place (suc m) i h =
    let pos : 0 < suc m = omega arith in
    subst (Place (suc m)) (div-add-mod i (suc m)) (at (i / suc m) (i % suc m) ((div-lt_iff_lt-mul pos).1 h) (mod-lt i pos))

-- what c has of the rows of x is in d
contained_bits : (n x c d : ℕ) → subset (n * n) (bit_and c (rows_of n x)) d ≡ contained_on n x c d
unfolding pair
contained_bits n x c d =
    bool_same (subset (n * n) (bit_and c (rows_of n x)) d) (contained_on n x c d)
    (λ e. contained_on_intro n x c d
    (λ q h m. subset_intro n (row n c q) (row n d q)
    (λ q' h' p. bit_row n d q q' h'
    ∙ subset_elim (n * n) (bit_and c (rows_of n x)) d (n * q + q') e (place_lt n q q' h h')
    (kept q q' h h' ∙ and_both (pair n c q q') (bit x q) (sym (bit_row n c q q' h') ∙ p) m))))
    (λ e. subset_intro (n * n) (bit_and c (rows_of n x)) d (λ i h p. back e (place n i h) p))
  where
    kept : (q q' : ℕ) → q < n → q' < n → bit (bit_and c (rows_of n x)) (n * q + q') ≡ (pair n c q q' && bit x q)
    kept q q' h h' = bit_and_lem c (rows_of n x) (n * q + q') ∙ ap (λ (b : Bool). pair n c q q' && b) (pair_rows_of n x q q' h h')

    back : {i : ℕ} → contained_on n x c d ≡ true → Place n i → bit (bit_and c (rows_of n x)) i ≡ true → bit d i ≡ true
    back e (at q q' h h') p =
        let both = sym (kept q q' h h') ∙ p in
        sym (bit_row n d q q' h')
        ∙ subset_elim n (row n c q) (row n d q) q' (contained_on_elim n x c d q e h (and_right (pair n c q q') (bit x q) both)) h'
        (bit_row n c q q' h' ∙ and_left (pair n c q q') (bit x q) both)

-- `c & (rows & !d) == 0`
pub contained_apart : (n x c d : ℕ) → c < 2 ^ (n * n) → d < 2 ^ (n * n)
    → eqb (bit_and c (bit_and (rows_of n x) (2 ^ (n * n) - 1 - d))) 0 ≡ contained_on n x c d
contained_apart n x c d l m = subset_apart (n * n) c d (rows_of n x) l m ∙ contained_bits n x c d
