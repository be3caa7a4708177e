-- Which file is refused, why and where (document 01, "Numbers the tool answers with", 1 to 6). Assumes nothing.
use Rattle.std.specs.Prelude.{Bool, ◌&&◌, ◌||◌, cond, List, ℕ, zero, suc, ◌*◌, ◌%◌, eqb, ltb, length, Option, Some, None, Result, Ok, Err}
use Rattle.automata.specs.declared.Head.{Head}
use Rattle.adding.specs.declared.Draft.{Draft}
use Rattle.adding.specs.declared.reason.Reason.{Reason}
use Rattle.adding.specs.declared.reason.Reason.TheVariants.{BrokenLength, UnknownKind, ByteNotZero, PastLimit, ThereAlready, NoInitialState}
use Rattle.records.specs.declared.Fault.{Fault}
use Rattle.records.specs.declared.Refusal.{Refusal}
use Rattle.records.specs.Spelled.{byte, count, kind_i, kind_f, kind_t, among, started, start_in, states_in, accepting_in}

-- the records before record i have it already: the same T or F, or any I
unfoldable pub again : List ℕ → ℕ → Bool
again s i = cond (eqb (byte s i 0) kind_i) (started s i) (among s i (byte s i 0) (byte s i 1) (byte s i 2) (byte s i 3))

-- the refusal that record i meets; states are below `states`, letters below 16
unfoldable pub fault : ℕ → List ℕ → ℕ → Option Reason
fault states s i =
    cond (eqb (byte s i 0) kind_t)
    (cond (ltb (byte s i 1) states && (ltb (byte s i 2) 16 && ltb (byte s i 3) states)) (cond (again s i) (Some ThereAlready) None) (Some PastLimit))
    (cond (eqb (byte s i 0) kind_i || eqb (byte s i 0) kind_f)
    (cond (eqb (byte s i 2) 0 && eqb (byte s i 3) 0) (cond (ltb (byte s i 1) states) (cond (again s i) (Some ThereAlready) None) (Some PastLimit)) (Some ByteNotZero))
    (Some UnknownKind))

-- the first of the k records from i on that is refused, and why
unfoldable pub first_fault : ℕ → List ℕ → ℕ → ℕ → Option (ℕ × Reason)
first_fault states s zero i = None
first_fault states s (suc k) i = elim (fault states s i) [ None ↦ first_fault states s k (suc i) | Some reason ↦ Some (i, reason) ]

-- how many records are read: those before the first fault, none of a file whose length is no multiple of four
unfoldable pub good_records : ℕ → List ℕ → ℕ
good_records states s = cond (eqb (length s % 4) 0) (elim (first_fault states s (count s) 0) [ None ↦ count s | Some first ↦ first.0 ]) 0

unfoldable pub head_of : List ℕ → Head
head_of s = record { start = start_in s (count s); accepting = accepting_in s (count s); states = states_in s (count s) }

abbrev pub fault_at : Reason → ℕ → Fault
fault_at reason place = record { reason = reason; place = place }

-- a record's refusal as its file's: record i begins at place 4 i
abbrev pub placed : ℕ → Result Draft Reason → Result Draft Fault
placed i (Ok draft) = Ok draft
placed i (Err reason) = Err (fault_at reason (4 * i))

-- the answer: 1; then the first record that meets 2, 3, 4 or 5; then 6; and else the head
unfoldable pub judged : ℕ → List ℕ → Result Head Fault
judged states s =
    cond (eqb (length s % 4) 0)
    (elim (first_fault states s (count s) 0) [
      | None ↦ cond (started s (count s)) (Ok (head_of s)) (Err (fault_at NoInitialState (length s)))
      | Some first ↦ Err (fault_at first.1 (4 * first.0))
    ])
    (Err (fault_at BrokenLength (4 * count s)))

-- a refusal as document 01 tells it
abbrev pub refusal : Reason → ℕ → ℕ → Refusal
refusal reason which place = record { reason = reason; which = which; place = place }

-- the answer for the file of that number: a fault tells which file it is in
abbrev pub refusal_of : ℕ → Result Head Fault → Result Head Refusal
refusal_of which (Ok head) = Ok head
refusal_of which (Err fault) = Err (refusal fault.reason which fault.place)
