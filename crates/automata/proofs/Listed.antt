-- Pairs whose rows stand in a list: their rows are its elements, and a loop that adds to each row in turn adds to the pairs. Assumes nothing.
use mathlib.Core.List.{List}
use mathlib.Core.Path.{◌≡◌, sym, ap, ◌∙◌}
use Prim.Native.Nat.{ℕ, ◌*◌, ◌/◌, ◌^◌, ◌<◌, ◌≤◌}
use native.Mathlib.Omega.{arith}
use lib.Bits.{bit_and, bit_or}
use lib.ListN.{get_or}
use mir.Syntax.{w16}
use mir.Val.{Fits}
use Rattle.bits.specs.Bits.{bit, weight}
use Rattle.bits.specs.Sets.{union, meet}
use Rattle.bits.specs.Pairs.{pair, row, pairs}
use Rattle.bits.proofs.Operations.{lowest_weight}
use Rattle.bits.proofs.Sets.{union_or, meet_and}
use Rattle.bits.proofs.Pairs.{bit_row, row_pairs, pairs_cong}
use Rattle.automata.specs.Loaded.{listed}

-- a loop that adds to each row: those below q have what is added, z, and the others are as they were
pub record Added (rows : List ℕ) (z : ℕ → ℕ) (out : List ℕ) (q : ℕ) : Type 0 where
  pub below : (i : ℕ) → i < q → get_or out i 0 ≡ bit_or (get_or rows i 0) (z i)
  pub above : (i : ℕ) → q ≤ i → get_or out i 0 ≡ get_or rows i 0

-- the rows of an array are short
pub short : (rows : List ℕ) → ((q : ℕ) → Fits w16 (get_or rows q 0)) → (q : ℕ) → get_or rows q 0 < 2 ^ 16
short rows fit q = (fit q).fits

module _ (n : ℕ) (rows : List ℕ) (small : (q : ℕ) → get_or rows q 0 < 2 ^ n) where
  module _ (q : ℕ) (h : q < n) where
    pub row_listed : row n (listed n rows) q ≡ get_or rows q 0
    unfolding listed
    row_listed = row_pairs n (λ q. get_or rows q 0) q (λ q h. small q) h

    pair_listed : (p : ℕ) → p < n → pair n (listed n rows) q p ≡ bit (get_or rows q 0) p
    pair_listed p l = sym (bit_row n (listed n rows) q p l) ∙ ap (λ (x : ℕ). bit x p) row_listed

    -- `row | z`
    pub or_listed : (z : ℕ) → z < 2 ^ n → bit_or (get_or rows q 0) z ≡ union n (row n (listed n rows) q) z
    or_listed z l = union_or n (get_or rows q 0) z (small q) l ∙ ap (λ (x : ℕ). union n x z) (sym row_listed)

    -- `row & z`
    pub and_listed : (z : ℕ) → bit_and (get_or rows q 0) z ≡ meet n (row n (listed n rows) q) z
    and_listed z = meet_and n (get_or rows q 0) z (small q) ∙ ap (λ (x : ℕ). meet n x z) (sym row_listed)

    -- `((row >> p) & 1) * y`
    pub times_listed : (p y : ℕ) → p < n → bit_and (get_or rows q 0 / 2 ^ p) 1 * y ≡ weight (pair n (listed n rows) q p) * y
    times_listed p y l = ap (λ (x : ℕ). x * y) (lowest_weight (get_or rows q 0) p ∙ ap weight (sym (pair_listed p l)))

  -- all rows are added to
  pub added_all : {z : ℕ → ℕ} (f : ℕ → ℕ) → ((q : ℕ) → q < n → z q ≡ f q) → ((q : ℕ) → q < n → f q < 2 ^ n)
      → {out : List ℕ} {q : ℕ} → Added rows z out q → n ≤ q → listed n out ≡ pairs n (λ q. union n (row n (listed n rows) q) (f q))
  unfolding listed
  added_all f same lt {out} all e =
      pairs_cong n (λ q. get_or out q 0) (λ q. union n (row n (listed n rows) q) (f q))
      (λ i h. all.below i (omega arith) ∙ ap (bit_or (get_or rows i 0)) (same i h) ∙ or_listed i h (f i) (lt i h))
