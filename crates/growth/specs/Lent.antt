-- What growing a lent table answers, and what the table then holds. Assumes nothing.
use Rattle.std.specs.Prelude.{List, ℕ, ◌++◌, Result, Ok, Err, length, drop}
use Rattle.growth.specs.Grow.{Outcome, ended, full}
use Rattle.growth.specs.declared.Full.{Full}

-- the number of the entries, or that one more lacks room
abbrev pub growth_of : {E : Type 0} → Outcome E → Result ℕ Full
growth_of (ended t) = Ok (length t)
growth_of (full t) = Err (record {})

-- the first elements are those of `new`, the later ones as they came
unfoldable pub over : {E : Type 0} → List E → List E → List E
over new old = new ++ drop (length new) old
