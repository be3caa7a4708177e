-- What `wickerbell_decide` promises: the entry point's answer, its number returned and the whole of it in a lent row of nine numbers. Assumes nothing.
use Rattle.std.specs.Prelude.{◌≡◌, cond, List, ℕ, ltb, length}
use Rattle.growth.specs.Lent.{over}
use Rattle.search.specs.Ending.{Buffers}
use Rattle.inclusion.specs.declared.Answer.{Answer}
use Rattle.inclusion.specs.Answers.{numbers_of}
use Rattle.inclusion.specs.Decided.{Decided, number_of}

-- S as it is judged: a row of fewer than nine numbers is one more lent table that is too short, so that no S is right
unfoldable pub room_with : List ℕ → ℕ → ℕ
room_with row S = cond (ltb (length row) 9) 0 S

-- the row at exit: the answer's nine numbers first; one that is too short is as it came
unfoldable pub row_left : List ℕ → Answer → List ℕ
row_left row r = cond (ltb (length row) 9) row (over (numbers_of r) row)

-- the three demands on the answer, which the number and the row then tell
pub record RowDecided (model rule : List ℕ) (S P : ℕ) (old : Buffers) (row : List ℕ) (number : ℕ) (new : Buffers) (after : List ℕ) : Type 0 where
  pub answer : Answer
  pub demands : Decided model rule (room_with row S) P old answer new
  pub number_told : number ≡ number_of answer
  pub row_told : after ≡ row_left row answer
