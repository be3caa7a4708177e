-- Sets of pairs of numbers below n: the pair (q, q') weighs 2 ^ (n · q + q'), so that row q, the q' with which q is paired, is the digit at q
-- to the base 2 ^ n. Assumes nothing.
use Rattle.std.specs.Prelude.{Bool, not, ◌||◌, ℕ, ◌+◌, ◌*◌, ◌-◌, ◌^◌}
use Rattle.bits.specs.Bits.{digit, pack, bit, weight, all}
use Rattle.bits.specs.Sets.{subset}

-- is the pair (q, q') a member of c?
unfoldable pub pair : ℕ → ℕ → ℕ → ℕ → Bool
pair n c q q' = bit c (n * q + q')

-- row q of c
unfoldable pub row : ℕ → ℕ → ℕ → ℕ
row n c q = digit (2 ^ n) c q

-- the pairs whose row q is f q
unfoldable pub pairs : ℕ → (ℕ → ℕ) → ℕ
pairs n f = pack (2 ^ n) f n

-- the rows of x: all pairs that start in x
unfoldable pub rows_of : ℕ → ℕ → ℕ
rows_of n x = pairs n (λ q. weight (bit x q) * (2 ^ n - 1))

-- on the rows of x, c is contained in d
unfoldable pub contained_on : ℕ → ℕ → ℕ → ℕ → Bool
contained_on n x c d = all (λ q. not (bit x q) || subset n (row n c q) (row n d q)) n
