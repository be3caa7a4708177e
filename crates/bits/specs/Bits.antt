-- Numbers by their digits, and by their bits: i is a member of the set x exactly if bit i of x is 1. Assumes nothing.
use Rattle.std.specs.Prelude.{Bool, true, false, ◌&&◌, ◌||◌, List, [], ◌∷◌, ◌++◌, ℕ, zero, suc, ◌+◌, ◌*◌, ◌/◌, ◌%◌, ◌^◌, eqb}

-- the digit of x at place i, to the base c
unfoldable pub digit : ℕ → ℕ → ℕ → ℕ
digit c x i = x / c ^ i % c

-- the number whose digits to the base c, at the places below n, are those of d
unfoldable pub pack : ℕ → (ℕ → ℕ) → ℕ → ℕ
pack c d zero = 0
pack c d (suc n) = d n * c ^ n + pack c d n

-- bit i of x: is i a member of x?
unfoldable pub bit : ℕ → ℕ → Bool
bit x i = eqb (digit 2 x i) 1

-- a truth value as a digit
unfoldable pub weight : Bool → ℕ
weight true = 1
weight false = 0

-- the set of the i below n that have f
unfoldable pub set_of : (ℕ → Bool) → ℕ → ℕ
set_of f n = pack 2 (λ i. weight (f i)) n

-- some i below n has f
unfoldable pub any : (ℕ → Bool) → ℕ → Bool
any f zero = false
any f (suc n) = any f n || f n

-- every i below n has f
unfoldable pub all : (ℕ → Bool) → ℕ → Bool
all f zero = true
all f (suc n) = all f n && f n

-- the list f 0, f 1, .. f (n - 1)
unfoldable pub values : {A : Type 0} → (ℕ → A) → ℕ → List A
values f zero = []
values f (suc n) = values f n ++ (f n ∷ [])
