-- How many states and letters there are: what the candidates range over, and what the bounds on tables count by. Assumes nothing.
use Rattle.std.specs.Prelude.{◌≡◌, true, ℕ, ◌<◌}
use Rattle.acceptance.specs.Lasso.{Word, Aut, Reach}
use Rattle.acceptance.specs.Contexts.{Small}

-- the states that paths of A meet are below `states`, the letters that they take below `letters`
pub record Bounded (letters states : ℕ) (A : Aut) : Type 0 where
  pub small : Small states A
  pub letter_bound : (p x q : ℕ) → A.step p x q ≡ true → x < letters

-- every state that A reaches has a number below a, its `place`, which tells it from the others: it is the `name` of its place
pub record Numbered (a : ℕ) (A : Aut) : Type 0 where
  pub place : ℕ → ℕ
  pub name : ℕ → ℕ
  pub below : {w : Word} {q : ℕ} → Reach A A.start w q → place q < a
  pub back : {w : Word} {q : ℕ} → Reach A A.start w q → name (place q) ≡ q
