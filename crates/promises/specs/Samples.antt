-- Document 01's sample models M1 to M9 as the bytes of their files, with the answers that document 01 gives, in one list; and the pairs that tell its
-- shortcuts from the walk. Assumes nothing.
use Rattle.std.specs.Prelude.{◌≡◌, Bool, true, false, Result, Ok, List, [], ◌∷◌, ◌++◌, map, ℕ, length, take, replicate}
use Rattle.acceptance.specs.Lasso.{Word}
use Rattle.adding.specs.declared.reason.Reason.{Reason}
use Rattle.adding.specs.declared.reason.Reason.TheVariants.{StemsFull, PeriodsFull}
use Rattle.records.specs.declared.Refusal.{Refusal}
use Rattle.records.specs.Faults.{refusal}
use Rattle.membership.specs.Test.{tested}
use Rattle.search.specs.declared.Counts.{Counts}
use Rattle.search.specs.declared.Lengths.{Lengths}
use Rattle.search.specs.Ending.{Buffers}
use Rattle.inclusion.specs.declared.Answer.{Answer}
use Rattle.inclusion.specs.declared.Answer.TheVariants as says
use Rattle.inclusion.specs.Answers.{counted, decided, left}

-- ---- what a sample says

-- the buffers that the program lends, for S up to 4,096 and P up to 2,048
abbrev pub lent : Buffers
lent = record {
  smallest = replicate 4096 0;
  largest = replicate 4096 0;
  links = replicate 2048 0;
  contexts = replicate 4096 0;
  stem = replicate 4096 0;
  period = replicate 2048 0;
}

abbrev pub lengths_in : Answer → Lengths
lengths_in (says.Included c) = record { stem = 0; period = 0 }
lengths_in (says.NotIncluded c l) = l
lengths_in (says.Refused r c) = record { stem = 0; period = 0 }

-- two files and the room, or a file and a lasso
pub data Question : Type 0 where
  pair : (model rule : List ℕ) (S P : ℕ) → Question
  lasso : (records : List ℕ) (stem period : Word) → Question

-- the answer with the words that are shown, or that of the lasso test
pub data Reply : Type 0 where
  decides : Answer → (stem period : Word) → Reply
  tests : Result Bool Refusal → Reply

-- the words are the first bytes of the outputs
abbrev pub told : Answer → Buffers → Reply
told r new = decides r (take (lengths_in r).stem new.stem) (take (lengths_in r).period new.period)

abbrev pub reply_to : Question → Reply
reply_to (pair model rule S P) = told (decided model rule S P lent) (left model rule S P lent)
reply_to (lasso records stem period) = tests (tested records stem period)

-- ---- the answers

abbrev pub included : Counts → Reply
included c = decides (says.Included c) [] []

abbrev pub shown : Counts → (stem period : Word) → Reply
shown c stem period = decides (says.NotIncluded c (record { stem = length stem; period = length period })) stem period

abbrev pub lacking : Reason → (which place : ℕ) → Counts → Reply
lacking reason which place c = decides (says.Refused (refusal reason which place) c) [] []

-- ---- the files

abbrev pub I : ℕ → List ℕ
I q = 0x49 ∷ q ∷ 0 ∷ 0 ∷ []

abbrev pub F : ℕ → List ℕ
F q = 0x46 ∷ q ∷ 0 ∷ 0 ∷ []

abbrev pub T : ℕ → ℕ → ℕ → List ℕ
T p x q = 0x54 ∷ p ∷ x ∷ q ∷ []

abbrev pub ALL : List ℕ
ALL = I 0 ++ F 0 ++ T 0 0 0 ++ T 0 1 0

abbrev pub OFTEN : List ℕ
OFTEN = I 0 ++ F 1 ++ T 0 0 1 ++ T 0 1 0 ++ T 1 0 1 ++ T 1 1 0

-- one letter for ever, accepting nowhere, and where it is
abbrev pub LOOP : List ℕ
LOOP = I 0 ++ T 0 0 0

abbrev pub ONCE : List ℕ
ONCE = LOOP ++ F 0

-- M8 and M9: by the one letter to and fro, the other state accepting; and away for ever from the one that is
abbrev pub TURNS : List ℕ
TURNS = I 0 ++ F 1 ++ T 0 0 1 ++ T 1 0 0

abbrev pub LEAVES : List ℕ
LEAVES = I 0 ++ F 0 ++ T 0 0 1 ++ T 1 0 1

-- a public trip, or a test trip that a public one follows; and a rule that settles for public trips at some time
abbrev pub PAIRED : List ℕ
PAIRED = I 0 ++ F 0 ++ T 0 0 0 ++ T 0 1 1 ++ T 1 0 0

abbrev pub SETTLED : List ℕ
SETTLED = I 0 ++ F 1 ++ T 0 0 0 ++ T 0 0 1 ++ T 0 1 0 ++ T 1 0 1

-- test trips for ever, accepting from the second state on
abbrev pub AWAY : List ℕ
AWAY = I 0 ++ F 1 ++ T 0 1 1 ++ T 1 1 1

-- ---- the lists

-- M1 to M9 in the order of document 01
abbrev pub samples : List (Question × Reply)
samples =
    (pair ALL OFTEN 4096 2048, shown (counted 2 2 2 2) [] (1 ∷ []))
    ∷ (pair OFTEN ALL 4096 2048, included (counted 2 2 2 1))
    ∷ (pair OFTEN OFTEN 4096 2048, included (counted 2 2 2 1))
    ∷ (pair LOOP (I 0) 4096 2048, included (counted 2 1 0 0))
    ∷ (pair ONCE (I 0) 4096 2048, shown (counted 2 1 1 1) [] (0 ∷ []))
    ∷ (pair ALL OFTEN 1 2048, lacking StemsFull 0 1 (counted 1 0 0 0))
    ∷ (pair ALL OFTEN 2 2048, shown (counted 2 2 2 2) [] (1 ∷ []))
    ∷ (pair ALL OFTEN 4096 1, lacking PeriodsFull 0 1 (counted 2 2 1 0))
    ∷ (pair ALL OFTEN 4096 2, shown (counted 2 2 2 2) [] (1 ∷ []))
    ∷ (lasso TURNS [] (0 ∷ []), tests (Ok true))
    ∷ (lasso LEAVES [] (0 ∷ []), tests (Ok false))
    ∷ []

-- where document 01's shortcuts give the other verdict: one period table for all w, or W by smallest targets (included); an entry at another state of A
-- covers (included); a loop after one period only, or acceptance only where a period starts or ends (shown); any visit to an accepting state (included)
abbrev pub pitfalls : List (Question × Reply)
pitfalls =
    (pair PAIRED SETTLED 4096 2048, shown (counted 2 3 3 3) [] (1 ∷ 0 ∷ []))
    ∷ (pair AWAY (I 0) 4096 2048, shown (counted 2 2 1 1) (1 ∷ []) (1 ∷ []))
    ∷ (pair ONCE TURNS 4096 2048, included (counted 2 2 2 4))
    ∷ (pair ONCE LEAVES 4096 2048, shown (counted 2 2 1 1) [] (0 ∷ []))
    ∷ []

-- each question has its reply
abbrev pub Hold : List (Question × Reply) → Type 0
Hold asked = map (λ (q : Question × Reply). reply_to q.0) asked ≡ map (λ (q : Question × Reply). q.1) asked
