-- What the lasso test answers (document 01, "Numbers the tool answers with": 1 to 6, then 10, then 11 in the stem, then 11 in the period). Assumes nothing.
use Rattle.std.specs.Prelude.{Bool, true, false, cond, List, ℕ, ◌+◌, eqb, length, Result, Ok, Err}
use Rattle.std.specs.Result.{result_and}
use Rattle.bits.specs.Sets.{meets}
use Rattle.acceptance.specs.Lasso.{Word, Aut}
use Rattle.acceptance.specs.Contexts.{target, context_of}
use Rattle.automata.specs.Repeated.{repeated}
use Rattle.adding.specs.declared.reason.Reason.TheVariants.{EmptyPeriod}
use Rattle.adding.specs.Reason.{number}
use Rattle.records.specs.declared.Refusal.{Refusal}
use Rattle.records.specs.Spelled.{spelled}
use Rattle.records.specs.Faults.{judged, refusal, refusal_of}
use Rattle.membership.specs.Checks.{checked}

-- the verdict for an automaton of up to sixteen states: copies of v lead on for ever, through acceptance again and again, from a state that u leads to
unfoldable pub verdict : Aut → Word → Word → Bool
verdict A u v = meets 16 (target 16 A u) (repeated 16 (context_of 16 A v))

-- the words are judged once the records are good
unfoldable pub tested_on : Aut → Word → Word → Result Bool Refusal
tested_on A u v =
    cond (eqb (length v) 0) (Err (refusal EmptyPeriod 0 0))
    (result_and (checked 0 u) (result_and (checked 1 v) (Ok (verdict A u v))))

unfoldable pub tested : List ℕ → Word → Word → Result Bool Refusal
tested records u v = result_and (refusal_of 0 (judged 16 records)) (tested_on (spelled records) u v)

-- document 01's number of an answer of the test, as the C host gets it
abbrev pub host_number : Result Bool Refusal → ℕ
host_number (Ok false) = 0
host_number (Ok true) = 1
host_number (Err refusal) = 100 + number refusal.reason
