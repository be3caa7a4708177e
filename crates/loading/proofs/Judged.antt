-- What it means that enough is lent. Assumes nothing.
use mathlib.Core.Bool.{true}
use mathlib.Core.Path.{◌≡◌}
use Prim.Native.Nat.{ℕ, ◌*◌, ◌≤◌}
use native.Mathlib.Omega.{arith}
use Rattle.std.proofs.lemmas.Bool.Decides.{nat_tests}
use Rattle.search.specs.Ending.{Buffers}
use Rattle.search.specs.Contract.{Enough}
use Rattle.loading.specs.declared.Sizes.{Sizes}
use Rattle.loading.specs.Outset.{sizes_of, long_enough}

-- S and P in range, and lengths that are enough for them
abbrev pub Long : ℕ → ℕ → Sizes → Type 0
Long S P n =
    (1 ≤ S) × (S ≤ 4096) × (1 ≤ P) × (P ≤ 65535)
    × (S ≤ n.smallest) × (S ≤ n.largest) × (P ≤ n.links) × (2 * P ≤ n.contexts) × (S ≤ n.stem) × (P ≤ n.period)

pub long_is : (S P : ℕ) (n : Sizes) → long_enough S P n ≡ true → Long S P n
unfolding long_enough
long_is S P n e = grind (arith, nat_tests)

pub long_enough_lem : {S P : ℕ} {n : Sizes} → Long S P n → true ≡ long_enough S P n
unfolding long_enough
long_enough_lem h = grind (arith, nat_tests)

-- of the lengths of lent buffers
pub enough : (S P : ℕ) (lent : Buffers) → long_enough S P (sizes_of lent) ≡ true → Enough S P lent
enough S P lent e = let h = long_is S P (sizes_of lent) e in grind arith

pub lent_enough : {S P : ℕ} {lent : Buffers} → Enough S P lent → true ≡ long_enough S P (sizes_of lent)
lent_enough h = long_enough_lem (grind arith)
