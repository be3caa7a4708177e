-- What the number that the host gets for a lasso means. Assumes nothing.
use Rattle.std.specs.Prelude.{◌↔◌, ◌≡◌, List, ℕ}
use Rattle.acceptance.specs.Lasso.{Word, Accepted}
use Rattle.records.specs.Spelled.{spelled}
use Rattle.membership.specs.Test.{tested, host_number}
use Rattle.membership.specs.Meaning.{Sound}

-- r is the number of the test's answer: 1 exactly if the inputs are good and the lasso is accepted, 0 exactly if they are and it is not
pub record LassoRight (records : List ℕ) (u v : Word) (r : ℕ) : Type 0 where
  pub answer : r ≡ host_number (tested records u v)
  pub accepted : (r ≡ 1) ↔ (Sound records u v × Accepted (spelled records) u v)
  pub rejected : (r ≡ 0) ↔ (Sound records u v × (Accepted (spelled records) u v → ⊥))
