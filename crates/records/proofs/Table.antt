-- A table by its cells, m rows of n sets: what stands in a cell, and that there are no members elsewhere; and arrays that are filled. Assumes nothing.
use mathlib.Core.Bool.{true}
use mathlib.Core.List.{List, []}
use mathlib.Core.Path.{◌≡◌, refl, ap, ◌∙◌}
use Prim.Native.Nat.{ℕ, ◌^◌, ◌<◌}
use native.Mathlib.Omega.{arith}
use lib.ListN.{get_or, get_or-eq_default}
use Rattle.bits.specs.Bits.{bit, values}
use Rattle.bits.proofs.Bits.{bit_zero, bit_above}
use Rattle.bits.proofs.Values.{values_length, values_at, Filled, filled_all}
use Rattle.records.specs.Narrow.{narrow_cell, narrow_row, narrow}
use Rattle.automata.specs.Loaded.{cell}

module _ (m n : ℕ) (f : ℕ → ℕ → ℕ) where
  abbrev pub row : ℕ → List ℕ
  row x = values (f x) n

  abbrev pub table : List (List ℕ)
  table = values row m

  pub row_at : (x : ℕ) → x < m → get_or table x [] ≡ row x
  row_at x h = values_at row m x [] h

  pub cell_at : (x p : ℕ) → x < m → p < n → cell table x p ≡ f x p
  unfolding cell
  cell_at x p h l = ap (λ (r : List ℕ). get_or r p 0) (row_at x h) ∙ values_at (f x) n p 0 l

  -- a cell of a table that has it has members below w alone
  pub member_at : (w : ℕ) → ((x p : ℕ) → f x p < 2 ^ w) → (x p q : ℕ) → bit (cell table x p) q ≡ true → (x < m) × (p < n) × (q < w)
  unfolding cell
  member_at w fits x p q e =
      let cell_is = cell_at x p in
      let above = bit_above (f x p) w q (fits x p) in
      let long = values_length row m in
      let wide = values_length (f x) n in
      let row_is = row_at x in
      let nothing = bit_zero q in
      grind (arith, get_or-eq_default)

-- ---- arrays that are filled: the first part of each conclusion says nothing, it shows the search where to use the second

pub narrow_row_filled : (t : List (List ℕ)) (x : ℕ) (out : List ℕ) → Filled 0 (narrow_cell t x) 8 out 8 → Filled 0 (narrow_cell t x) 8 out 8 × (out ≡ narrow_row t x)
unfolding narrow_row
narrow_row_filled t x out all = (all, filled_all 0 (narrow_cell t x) 8 out 8 all refl)

pub narrow_filled : (t out : List (List ℕ)) → Filled [] (narrow_row t) 16 out 16 → Filled [] (narrow_row t) 16 out 16 × (out ≡ narrow t)
unfolding narrow
narrow_filled t out all = (all, filled_all [] (narrow_row t) 16 out 16 all refl)
