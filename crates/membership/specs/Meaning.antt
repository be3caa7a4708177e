-- What the answers of the lasso test mean: the automaton that the records spell out accepts the lasso, or it does not, or an input is bad.
-- Assumes nothing.
use Rattle.std.specs.Prelude.{◌↔◌, ◌≡◌, Bool, true, false, List, ℕ, ◌≤◌, ◌<◌, length, get_or, Result, Ok}
use Rattle.acceptance.specs.Lasso.{Word, Accepted}
use Rattle.automata.specs.declared.Head.{Head}
use Rattle.records.specs.declared.Refusal.{Refusal}
use Rattle.records.specs.Spelled.{spelled}
use Rattle.records.specs.Faults.{judged}
use Rattle.membership.specs.Test.{tested}

-- every letter is below 16
pub record Lettered (w : Word) : Type 0 where
  pub below : (i : ℕ) → i < length w → get_or w i 0 < 16

-- the records are good, the period has a letter, and every letter is below 16
pub record Sound (records : List ℕ) (u v : Word) : Type 0 where
  pub head : Head
  pub file : judged 16 records ≡ Ok head
  pub some_letter : 1 ≤ length v
  pub stem : Lettered u
  pub period : Lettered v

-- the test's answer r: the one that is defined, and it is true exactly if the lasso is accepted, false exactly if it is not
pub record TestRight (records : List ℕ) (u v : Word) (r : Result Bool Refusal) : Type 0 where
  pub answer : r ≡ tested records u v
  pub accepted : (r ≡ Ok true) ↔ (Sound records u v × Accepted (spelled records) u v)
  pub rejected : (r ≡ Ok false) ↔ (Sound records u v × (Accepted (spelled records) u v → ⊥))
