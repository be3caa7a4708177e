-- The bad record as a part of one of two files (document 01, "Numbers the tool answers with"). Assumes nothing.
use Rattle.std.specs.Prelude.{Bool, ◌&&◌, cond, List, ℕ, eqb, leb, length, take, drop}

-- the file of that number, or what belongs to it
abbrev pub file_of : {A : Type 0} → ℕ → A → A → A
file_of which a b = cond (eqb which 1) b a

module _ (which place : ℕ) (a b : List ℕ) where
  -- which is 0 or 1, and the place is not past that file's end
  unfoldable pub in_file : Bool
  in_file = leb which 1 && leb place (length (file_of which a b))

  -- the part that is given, by its file, its start and its bytes: four or as many as remain; otherwise the empty part at the start of the first file
  unfoldable pub bad_file : ℕ
  bad_file = cond in_file which 0

  unfoldable pub bad_start : ℕ
  bad_start = cond in_file place 0

  unfoldable pub bad_record : List ℕ
  bad_record = take (cond in_file 4 0) (drop bad_start (file_of bad_file a b))
