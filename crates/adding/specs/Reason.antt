-- The numbers of the refusals (document 01, "Numbers the tool answers with"), and of a caller's own. Assumes nothing.
use Rattle.std.specs.Prelude.{ℕ}
use Rattle.adding.specs.declared.reason.Reason.{Reason}
use Rattle.adding.specs.declared.reason.Reason.TheVariants.{BrokenLength, UnknownKind, ByteNotZero, PastLimit, ThereAlready, NoInitialState, TooLittleLent, StemsFull, PeriodsFull, EmptyPeriod, LetterPastLimit, Other}

abbrev pub number : Reason → ℕ
number BrokenLength = 1
number UnknownKind = 2
number ByteNotZero = 3
number PastLimit = 4
number ThereAlready = 5
number NoInitialState = 6
number TooLittleLent = 7
number StemsFull = 8
number PeriodsFull = 9
number EmptyPeriod = 10
number LetterPastLimit = 11
number (Other k) = k
