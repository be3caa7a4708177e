-- The row of an answer, written number by number. Assumes nothing.
use mathlib.Core.Path.{◌≡◌, refl}
use lib.ListN.{length}
use Rattle.inclusion.specs.declared.Answer.{Answer}
use Rattle.inclusion.specs.declared.Answer.TheVariants.{Included, NotIncluded, Refused}
use Rattle.inclusion.specs.Answers.{numbers_of}

-- there are nine
pub nine : (r : Answer) → length (numbers_of r) ≡ 9
unfolding numbers_of
nine (Included c) = refl
nine (NotIncluded c l) = refl
nine (Refused r c) = refl
