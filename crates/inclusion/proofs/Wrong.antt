-- Wrong answers of `numbers`, and of a step of the entry point, that their contracts rule out, on an input each; those of the entry point itself stand in promises/proofs/Idle.
-- Assumes nothing.
use mathlib.Core.List.{List, [], ◌∷◌}
use mathlib.Core.Path.{ap}
use Prim.Native.Nat.{ℕ}
use native.Mathlib.Omega.{arith}
use lib.ListN.{get_or}
use Rattle.bits.proofs.Refuses.{Refuses}
use Rattle.adding.specs.declared.reason.Reason.TheVariants.{StemsFull as NoStems}
use Rattle.records.specs.Faults.{refusal}
use Rattle.search.specs.declared.Ending.TheVariants.{StemsFull}
use Rattle.inclusion.specs.declared.Answer.{Answer}
use Rattle.inclusion.specs.declared.Answer.TheVariants as says
use Rattle.inclusion.specs.Answers.{counted, answer_to, numbers_of}
use Rattle.inclusion.proofs.numbers.Reads as numbers
use Rattle.inclusion.proofs.answer_to.Reads as AnswerTo

-- u and w in each other's place
pub counts_swapped : Refuses numbers.Post (says.NotIncluded (counted 1 2 3 4) (record { stem = 5; period = 6 }), _) (0 ∷ 0 ∷ 0 ∷ 2 ∷ 1 ∷ 3 ∷ 4 ∷ 5 ∷ 6 ∷ [])
unfolding numbers_of
counts_swapped x p = omega (arith, ap (λ (row : List ℕ). get_or row 3 0) p)

-- a word's length beside a refusal
pub length_with_refusal : Refuses numbers.Post (says.Refused (refusal NoStems 0 2) (counted 2 0 0 0), _) (8 ∷ 0 ∷ 2 ∷ 2 ∷ 0 ∷ 0 ∷ 0 ∷ 1 ∷ 0 ∷ [])
unfolding numbers_of
length_with_refusal x p = omega (arith, ap (λ (row : List ℕ). get_or row 7 0) p)

-- 8 with P for its place
pub place_of_eight : Refuses AnswerTo.Post (record { stems = 2; periods = 3 }, (StemsFull 0 (counted 2 0 0 0), _)) (says.Refused (refusal NoStems 0 3) (counted 2 0 0 0))
unfolding answer_to numbers_of
place_of_eight x p = omega (arith, ap (λ (a : Answer). get_or (numbers_of a) 2 0) p)
