-- What checking the letters of a word answers. Assumes nothing.
use Rattle.std.specs.Prelude.{ℕ, leb, Option, Some, None, Result, Ok, Err}
use Rattle.std.specs.List.{position}
use Rattle.acceptance.specs.Lasso.{Word}
use Rattle.adding.specs.declared.reason.Reason.TheVariants.{LetterPastLimit}
use Rattle.records.specs.declared.Refusal.{Refusal}
use Rattle.records.specs.Faults.{refusal}

-- the first letter that is not below 16
abbrev pub bad_letter : Word → Option ℕ
bad_letter w = position (leb 16) w

-- refusal 11 of the stem, 0, or the period, 1
unfoldable pub checked : ℕ → Word → Result (Unit {0}) Refusal
checked which w = elim (bad_letter w) [ None ↦ Ok tt | Some place ↦ Err (refusal LetterPastLimit which place) ]
