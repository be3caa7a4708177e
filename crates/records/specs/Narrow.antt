-- The table of an automaton of eight states: the first eight sets of each row, as bytes. Assumes nothing.
use Rattle.std.specs.Prelude.{List, ℕ, ◌%◌}
use Rattle.bits.specs.Bits.{values}
use Rattle.automata.specs.Loaded.{cell}

unfoldable pub narrow_cell : List (List ℕ) → ℕ → ℕ → ℕ
narrow_cell t x p = cell t x p % 256

unfoldable pub narrow_row : List (List ℕ) → ℕ → List ℕ
narrow_row t x = values (narrow_cell t x) 8

unfoldable pub narrow : List (List ℕ) → List (List ℕ)
narrow t = values (narrow_row t) 16
