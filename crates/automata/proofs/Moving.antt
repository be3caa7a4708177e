-- All rows of a relation moved at once by another, one state after the other: what the loop has after p states. Assumes nothing.
use mathlib.Core.Bool.{Bool, true, false, ◌&&◌, ◌||◌, or-false}
use mathlib.Core.Path.{◌≡◌, refl, sym, ap, ap₂, ◌∙◌}
use Prim.Native.Nat.{ℕ, ◌+◌, ◌*◌, ◌^◌, ◌<◌}
use native.Mathlib.Nat.{zero-mul, one-mul}
use lib.Pow.{pow_pos}
use Rattle.bits.specs.Bits.{bit, weight}
use Rattle.bits.specs.Sets.{union, moves_to, moved}
use Rattle.bits.specs.Pairs.{pair, row, pairs}
use Rattle.bits.proofs.Quantifiers.{any_none, any_cong}
use Rattle.bits.proofs.Bits.{bit_zero, set_of_is, set_of_cong, set_of_bits}
use Rattle.bits.proofs.Moved.{moved_below, moved_below_lt, moved_none, moved_taken, moved_passed, moved_all_lem}
use Rattle.bits.proofs.Pairs.{bit_row, row_pairs, pairs_cong, pairs_is}
use Rattle.automata.specs.Repeated.{moved_rows, led_on}
use Rattle.automata.proofs.Rows.{row_zero}

-- the members of x and none
pub union_none : (n x : ℕ) → x < 2 ^ n → union n x 0 ≡ x
unfolding union
union_none n x l = set_of_cong (λ q. bit x q || bit 0 q) (bit x) n (λ q h. ap (λ (b : Bool). bit x q || b) (bit_zero q) ∙ or-false (bit x q)) ∙ set_of_bits n x l

pub none_union : (n x : ℕ) → x < 2 ^ n → union n 0 x ≡ x
unfolding union
none_union n x l = set_of_cong (λ q. bit 0 q || bit x q) (bit x) n (λ q h. ap (λ (b : Bool). b || bit x q) (bit_zero q)) ∙ set_of_bits n x l

-- steps that agree below n move a set alike
pub moved_cong : (n : ℕ) (f g : ℕ → ℕ → Bool) (x : ℕ) → ((p q : ℕ) → p < n → q < n → f p q ≡ g p q) → moved n f x ≡ moved n g x
unfolding moved moves_to
moved_cong n f g x same =
    set_of_cong (moves_to f x n) (moves_to g x n) n
    (λ q h. any_cong (λ p. bit x p && f p q) (λ p. bit x p && g p q) n (λ p l. ap (λ (b : Bool). bit x p && b) (same p q l h)))

module _ (n by : ℕ) where
  -- the row of p, times its bit
  moved_below_more : (x p : ℕ) → union n (moved_below n (pair n by) x p) (weight (bit x p) * row n by p) ≡ moved_below n (pair n by) x (p + 1)
  unfolding weight
  moved_below_more x p = at (bit x p) refl
    where
      at : (b : Bool) → bit x p ≡ b → union n (moved_below n (pair n by) x p) (weight b * row n by p) ≡ moved_below n (pair n by) x (p + 1)
      at true e =
          ap (union n (moved_below n (pair n by) x p)) (one-mul (row n by p))
          ∙ moved_taken n (pair n by) x p (row n by p) (λ i h. bit_row n by p i h) e
      at false e =
          ap (union n (moved_below n (pair n by) x p)) (zero-mul (row n by p))
          ∙ union_none n (moved_below n (pair n by) x p) (moved_below_lt n (pair n by) x p) ∙ moved_passed n (pair n by) x p e

  -- the same of each row of c
  unfoldable pub rows_below : ℕ → ℕ → ℕ
  rows_below c p = pairs n (λ q. moved_below n (pair n by) (row n c q) p)

  pub rows_below_none : (c : ℕ) → 0 ≡ rows_below c 0
  unfolding rows_below
  rows_below_none c =
      pairs_is n (λ q. moved_below n (pair n by) (row n c q) 0) 0 (pow_pos (n * n)) (λ q h. row_zero n q ∙ moved_none n (pair n by) (row n c q))

  pub rows_below_more : (c p : ℕ) → p < n → led_on n (rows_below c p) c p (row n by p) ≡ rows_below c (p + 1)
  unfolding rows_below led_on
  rows_below_more c p h =
      pairs_cong n (λ q. union n (row n (rows_below c p) q) (weight (pair n c q p) * row n by p)) (λ q. moved_below n (pair n by) (row n c q) (p + 1))
      (λ q m. ap₂ (union n) (row_pairs n (λ q. moved_below n (pair n by) (row n c q) p) q (λ q m. moved_below_lt n (pair n by) (row n c q) p) m)
      (ap (λ (b : Bool). weight b * row n by p) (sym (bit_row n c q p h))) ∙ moved_below_more (row n c q) p)

  pub rows_below_all : (c p : ℕ) → p ≡ n → rows_below c p ≡ moved_rows n by c
  unfolding rows_below
  rows_below_all c p e =
      pairs_cong n (λ q. moved_below n (pair n by) (row n c q) p) (λ q. moved n (pair n by) (row n c q))
      (λ q h. moved_all_lem n (pair n by) (row n c q) p e)

  -- where all rows are empty there is nothing to move
  pub rows_none : {c : ℕ} → c ≡ 0 → 0 ≡ moved_rows n by c
  unfolding moved moves_to
  rows_none {c} e =
      pairs_is n (λ q. moved n (pair n by) (row n c q)) 0 (pow_pos (n * n))
      (λ q h. row_zero n q
      ∙ set_of_is (moves_to (pair n by) (row n c q) n) n 0 (pow_pos n)
      (λ i l. bit_zero i ∙ sym (any_none _ n (λ p m. rw (e, row_zero, bit_zero)))))

-- what the loop over the states rests on
pub ruleset state_by_state = (rows_below_none, rows_below_more, rows_below_all)
