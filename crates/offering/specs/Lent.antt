-- What growing a period table leaves in the two lent tables. Assumes nothing.
use Rattle.std.specs.Prelude.{◌≡◌, List, ℕ, Result}
use Rattle.growth.specs.declared.Full.{Full}
use Rattle.growth.specs.Grow.{Outcome, entries}
use Rattle.growth.specs.Lent.{growth_of, over}
use Rattle.covering.specs.Entries.{Period, links_of, contexts_of}

-- what growing to the outcome o answers, and what it leaves: o's entries, and beyond them what came
pub record Leaves (o : Outcome Period) (r : Result ℕ Full) (links₀ links contexts₀ contexts : List ℕ) : Type 0 where
  pub answer : r ≡ growth_of o
  pub links_left : links ≡ over (links_of (entries o)) links₀
  pub contexts_left : contexts ≡ over (contexts_of (entries o)) contexts₀
