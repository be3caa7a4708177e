-- What one more record adds: to the accepting set and to the table, where it is an F or a T; nothing else changes. Assumes nothing.
use mathlib.Core.Bool.{Bool, false, ◌||◌}
use mathlib.Core.List.{List}
use mathlib.Core.Path.{◌≡◌, refl, sym, ap, ap₂, ◌∙◌}
use Prim.Native.Nat.{ℕ, suc, ◌^◌, ◌<◌}
use native.Mathlib.Omega.{arith}
use Rattle.std.proofs.lemmas.Bool.Decides.{nat_tests}
use lib.Dec.{eqb}
use lib.ListN.{set}
use Rattle.bits.specs.Bits.{bit, set_of, any}
use Rattle.bits.specs.Sets.{union}
use Rattle.bits.proofs.Bits.{bit_set_of, set_of_cong}
use Rattle.bits.proofs.Operations.{bit_power}
use Rattle.bits.proofs.Values.{values_cong, values_set}
use Rattle.automata.specs.Loaded.{cell}
use Rattle.records.specs.Spelled.{byte, kind_f, kind_t, is_record, among, table_of, accepting_in}
use Rattle.adding.specs.Steps.{cell_with}
use Rattle.records.proofs.Table.{row, row_at, cell_at}

-- one more member
set_of_more : (f g : ℕ → Bool) (n q : ℕ) → ((j : ℕ) → g j ≡ (f j || eqb q j)) → union n (set_of f n) (2 ^ q) ≡ set_of g n
unfolding union
set_of_more f g n q more =
    set_of_cong (λ j. bit (set_of f n) j || bit (2 ^ q) j) g n (λ j h. ap₂ ◌||◌ (bit_set_of f n j h) (bit_power q j) ∙ sym (more j))

-- ---- the table, by its cells

abbrev pub cell_in : List ℕ → ℕ → ℕ → ℕ → ℕ
cell_in s n x p = set_of (λ q. among s n kind_t p x q) 16

abbrev row_in : List ℕ → ℕ → ℕ → List ℕ
row_in s n = row 16 16 (cell_in s n)

pub table_at : (s : List ℕ) (n x p : ℕ) → x < 16 → p < 16 → cell (table_of s n) x p ≡ cell_in s n x p
unfolding table_of
table_at s n = cell_at 16 16 (cell_in s n)

-- ---- members

pub accepting_bit : (s : List ℕ) (n q : ℕ) → q < 16 → bit (accepting_in s n) q ≡ among s n kind_f q 0 0
unfolding accepting_in
accepting_bit s n q = bit_set_of (λ q. among s n kind_f q 0 0) 16 q

pub table_bit : (s : List ℕ) (n x p q : ℕ) → x < 16 → p < 16 → q < 16 → bit (cell (table_of s n) x p) q ≡ among s n kind_t p x q
table_bit s n x p q l h k = ap (λ (c : ℕ). bit c q) (table_at s n x p l h) ∙ bit_set_of (λ q. among s n kind_t p x q) 16 q k

module _ (s : List ℕ) (i : ℕ) where
  -- ---- what the record does not say

  among_same : (kind a b c : ℕ) → is_record s i kind a b c ≡ false → among s i kind a b c ≡ among s (suc i) kind a b c
  unfolding among any
  among_same kind a b c e = grind arith

  cell_same : (x p : ℕ) → ((q : ℕ) → is_record s i kind_t p x q ≡ false) → cell_in s i x p ≡ cell_in s (suc i) x p
  cell_same x p none = set_of_cong (λ q. among s i kind_t p x q) (λ q. among s (suc i) kind_t p x q) 16 (λ q h. among_same kind_t p x q (none q))

  row_same : (x : ℕ) → ((p q : ℕ) → is_record s i kind_t p x q ≡ false) → row_in s i x ≡ row_in s (suc i) x
  row_same x none = values_cong (cell_in s i x) (cell_in s (suc i) x) 16 (λ p h. cell_same x p (none p))

  other_kind : (kind a b c : ℕ) → eqb (byte s i 0) kind ≡ false → is_record s i kind a b c ≡ false
  unfolding is_record
  other_kind kind a b c e = grind arith

  pub accepting_other : eqb (byte s i 0) kind_f ≡ false → accepting_in s i ≡ accepting_in s (suc i)
  unfolding accepting_in
  accepting_other e =
      set_of_cong (λ q. among s i kind_f q 0 0) (λ q. among s (suc i) kind_f q 0 0) 16 (λ q h. among_same kind_f q 0 0 (other_kind kind_f q 0 0 e))

  pub table_other : eqb (byte s i 0) kind_t ≡ false → table_of s i ≡ table_of s (suc i)
  unfolding table_of
  table_other e = values_cong (row_in s i) (row_in s (suc i)) 16 (λ x h. row_same x (λ p q. other_kind kind_t p x q e))

  -- ---- an F, a T

  pub accepting_more : byte s i 0 ≡ kind_f → byte s i 2 ≡ 0 → byte s i 3 ≡ 0 → union 16 (accepting_in s i) (2 ^ byte s i 1) ≡ accepting_in s (suc i)
  unfolding accepting_in among any is_record
  accepting_more k y z =
      set_of_more (λ q. among s i kind_f q 0 0) (λ q. among s (suc i) kind_f q 0 0) 16 (byte s i 1)
      (λ q. grind (arith, nat_tests))

  pub table_more : byte s i 0 ≡ kind_t → byte s i 1 < 16 → byte s i 2 < 16
      → cell_with (table_of s i) (record { source = byte s i 1; letter = byte s i 2; target = byte s i 3 }) ≡ table_of s (suc i)
  unfolding cell_with table_of among any is_record
  table_more k h l =
      values_set (row_in s i) (row_in s (suc i)) 16 x _ l
      (ap₂ (λ (row : List ℕ) (c : ℕ). set row p c) (row_at 16 16 (cell_in s i) x l) (ap (λ (c : ℕ). union 16 c (2 ^ q)) (table_at s i x p l h) ∙ member) ∙ row)
      (λ y ne. row_same y (λ a b. not_letter y a b ne))
    where
      p : ℕ
      p = byte s i 1

      x : ℕ
      x = byte s i 2

      q : ℕ
      q = byte s i 3

      member : union 16 (cell_in s i x p) (2 ^ q) ≡ cell_in s (suc i) x p
      member =
          set_of_more (λ j. among s i kind_t p x j) (λ j. among s (suc i) kind_t p x j) 16 q
          (λ j. grind (arith, nat_tests))

      not_source : (a b : ℕ) → (a ≡ p → ⊥) → is_record s i kind_t a x b ≡ false
      not_source a b ne = grind (arith, nat_tests)

      not_letter : (y a b : ℕ) → (y ≡ x → ⊥) → is_record s i kind_t a y b ≡ false
      not_letter y a b ne = grind (arith, nat_tests)

      row : set (row_in s i x) p (cell_in s (suc i) x p) ≡ row_in s (suc i) x
      row = values_set (cell_in s i x) (cell_in s (suc i) x) 16 p (cell_in s (suc i) x p) h refl (λ a ne. cell_same x a (λ b. not_source a b ne))
