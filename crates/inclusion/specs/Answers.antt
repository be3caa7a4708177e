-- What the tool answers, for any two files, any room and any six lent buffers (document 01, "Numbers the tool answers with"). Assumes nothing.
use Rattle.std.specs.Prelude.{List, [], ◌∷◌, ℕ, Result, Ok, Err}
use Rattle.automata.specs.declared.Head.{Head}
use Rattle.adding.specs.declared.reason.Reason.TheVariants.{StemsFull as no_room_for_stems, PeriodsFull as no_room_for_periods}
use Rattle.adding.specs.Reason.{number}
use Rattle.records.specs.declared.Refusal.{Refusal}
use Rattle.records.specs.Spelled.{spelled}
use Rattle.records.specs.Faults.{judged, refusal}
use Rattle.loading.specs.Outset.{sizes_of, long_enough, outset_of}
use Rattle.search.specs.declared.Counts.{Counts}
use Rattle.search.specs.declared.Ending.{Ending}
use Rattle.search.specs.declared.Ending.TheVariants.{Included as Passed, Shown, StemsFull, PeriodsFull}
use Rattle.walk.specs.Walk.{Walked, walk}
use Rattle.search.specs.Ending.{Buffers, ending_of, left_by}
use Rattle.inclusion.specs.declared.Answer.{Answer}
use Rattle.inclusion.specs.declared.Answer.TheVariants.{Included, NotIncluded, Refused}

abbrev pub counted : ℕ → ℕ → ℕ → ℕ → Counts
counted u w p t = record { u = u; w = w; p = p; t = t }

abbrev pub none_counted : Counts
none_counted = counted 0 0 0 0

-- whether the walk is made, or the refusal that comes before it
pub data Start : Type 0 where
  walks : Start
  stops : Refusal → Start

abbrev pub start_by : Result (Head × Head) Refusal → Start
start_by (Ok heads) = walks
start_by (Err r) = stops r

unfoldable pub start_of : List ℕ → List ℕ → ℕ → ℕ → Buffers → Start
start_of model rule S P lent = start_by (outset_of (judged 16 model) (judged 8 rule) (long_enough S P (sizes_of lent)))

-- document 01's answer to how the walk ends: 0, or 8 and 9 with their places
unfoldable pub answer_to : ℕ → ℕ → Ending → Answer
answer_to S P (Passed counts) = Included counts
answer_to S P (Shown counts lengths) = NotIncluded counts lengths
answer_to S P (StemsFull k counts) = Refused (refusal no_room_for_stems k S) counts
answer_to S P (PeriodsFull counts) = Refused (refusal no_room_for_periods 0 P) counts

-- the walk of the two automata that the files spell out
abbrev pub walk_of : List ℕ → List ℕ → ℕ → ℕ → Walked
walk_of model rule S P = walk (spelled model) (spelled rule) S P

unfoldable pub decided : List ℕ → List ℕ → ℕ → ℕ → Buffers → Answer
decided model rule S P lent =
    elim (start_of model rule S P lent) [
      | walks ↦ answer_to S P (ending_of (walk_of model rule S P))
      | stops r ↦ Refused r none_counted
    ]

-- what the six buffers hold at exit: as they came after a refusal from 1 to 7, and else what the walk leaves
unfoldable pub left : List ℕ → List ℕ → ℕ → ℕ → Buffers → Buffers
left model rule S P lent =
    elim (start_of model rule S P lent) [
      | walks ↦ left_by (walk_of model rule S P) P lent
      | stops r ↦ lent
    ]

-- document 01's nine numbers of an answer: number, which, place, u, w, p, t, and the lengths of the stem and of the period
unfoldable pub numbers_of : Answer → List ℕ
numbers_of (Included c) = 0 ∷ 0 ∷ 0 ∷ c.u ∷ c.w ∷ c.p ∷ c.t ∷ 0 ∷ 0 ∷ []
numbers_of (NotIncluded c l) = 0 ∷ 0 ∷ 0 ∷ c.u ∷ c.w ∷ c.p ∷ c.t ∷ l.stem ∷ l.period ∷ []
numbers_of (Refused r c) = number r.reason ∷ r.which ∷ r.place ∷ c.u ∷ c.w ∷ c.p ∷ c.t ∷ 0 ∷ 0 ∷ []
