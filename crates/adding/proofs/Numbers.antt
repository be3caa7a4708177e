-- No refusal of document 01 has the number 0, which is a verdict's. Assumes nothing.
use mathlib.Core.Path.{◌≡◌}
use Prim.Native.Nat.{ℕ, ◌≤◌}
use native.Mathlib.Omega.{arith}
use Rattle.adding.specs.declared.reason.Reason.{Reason}
use Rattle.adding.specs.declared.reason.Reason.TheVariants.{Other}
use Rattle.adding.specs.Reason.{number}

pub some_number : (reason : Reason) → ((k : ℕ) → reason ≡ Other k → ⊥) → 1 ≤ number reason
some_number reason known = grind arith
