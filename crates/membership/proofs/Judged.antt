-- What the test answers of words, case by case. Assumes nothing.
use mathlib.Core.Path.{◌≡◌, refl}
use borrow.Author.Tests.{eq-eqb}
use lib.ListN.{length}
use Rattle.std.specs.Prelude.{Err}
use Rattle.acceptance.specs.Lasso.{Word, Aut}
use Rattle.adding.specs.declared.reason.Reason.TheVariants.{EmptyPeriod}
use Rattle.records.specs.Faults.{refusal}
use Rattle.membership.specs.Test.{tested_on}

-- an empty period is refused before any letter is looked at
pub empty_period : (A : Aut) (u v : Word) → length v ≡ 0 → Err (refusal EmptyPeriod 0 0) ≡ tested_on A u v
unfolding tested_on
empty_period A u v e = rw (eq-eqb (length v) 0 e) refl
