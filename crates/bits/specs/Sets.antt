-- Sets of numbers below n, the number q weighing 2 ^ q. Assumes nothing.
use Rattle.std.specs.Prelude.{◌≡◌, Bool, true, not, ◌&&◌, ◌||◌, List, ℕ, ◌<◌, get_or}
use Rattle.bits.specs.Bits.{bit, set_of, any, all}

-- x is the set of the numbers that have P, all of which are below n
pub record SetIs (n x : ℕ) (P : ℕ → Type 0) : Type 0 where
  pub has : (q : ℕ) → P q → (q < n) × (bit x q ≡ true)
  pub only : (q : ℕ) → q < n → bit x q ≡ true → P q

-- each member of x is one of y
unfoldable pub subset : ℕ → ℕ → ℕ → Bool
subset n x y = all (λ q. not (bit x q) || bit y q) n

-- the members of x and those of y
unfoldable pub union : ℕ → ℕ → ℕ → ℕ
union n x y = set_of (λ q. bit x q || bit y q) n

-- the members of x that are members of y
unfoldable pub meet : ℕ → ℕ → ℕ → ℕ
meet n x y = set_of (λ q. bit x q && bit y q) n

-- some member of x is one of y
unfoldable pub meets : ℕ → ℕ → ℕ → Bool
meets n x y = any (λ q. bit x q && bit y q) n

-- some member of x, below n, steps to q'
unfoldable pub moves_to : (ℕ → ℕ → Bool) → ℕ → ℕ → ℕ → Bool
moves_to step x n q' = any (λ q. bit x q && step q q') n

-- the set x moved by a step: the q' that some member of x steps to
unfoldable pub moved : ℕ → (ℕ → ℕ → Bool) → ℕ → ℕ
moved n step x = set_of (moves_to step x n) n

-- the step that a list spells out, of sets whose members are the bits of a number: from q to each member of the set at q, its row
unfoldable pub by_sets : {A : Type 0} → (A → ℕ) → A → List A → ℕ → ℕ → Bool
by_sets bits none rows q q' = bit (bits (get_or rows q none)) q'

-- the same of sets that are these numbers
abbrev pub by_rows : List ℕ → ℕ → ℕ → Bool
by_rows rows = by_sets (λ x. x) 0 rows
