-- Candidates in the order in which they are taken: letters rising, then states rising. Assumes nothing.
use Rattle.std.specs.Prelude.{Bool, cond, List, [], ◌∷◌, ◌++◌, ℕ, zero, suc}

module _ {E : Type 0} where
  -- f i, f (i + 1), .. and so on for k numbers, one after the other
  unfoldable pub gather : ℕ → ℕ → (ℕ → List E) → List E
  gather i zero f = []
  gather i (suc k) f = f i ++ gather (suc i) k f

  -- the entry where the test holds
  abbrev pub only : Bool → E → List E
  only b e = cond b (e ∷ []) []

  -- what is made of the pairs of numbers below the two bounds, the first rising, for each the second rising, where the test allows it
  unfoldable pub steps : (letters states : ℕ) → (ℕ → ℕ → Bool) → (ℕ → ℕ → E) → List E
  steps letters states test make = gather 0 letters (λ x. gather 0 states (λ q. only (test x q) (make x q)))
