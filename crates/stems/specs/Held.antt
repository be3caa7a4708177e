-- What growing a lent table of stems promises. Assumes nothing.
use Rattle.std.specs.Prelude.{◌≡◌, List, ℕ, Result}
use Rattle.growth.specs.Grow.{Outcome, entries}
use Rattle.growth.specs.Lent.{growth_of, over}
use Rattle.growth.specs.declared.Full.{Full}

-- the answer is that of the outcome; the table holds its entries, and its old elements beyond
pub record Held (o : Outcome ℕ) (old new : List ℕ) (r : Result ℕ Full) : Type 0 where
  pub answer : r ≡ growth_of o
  pub holds : new ≡ over (entries o) old
