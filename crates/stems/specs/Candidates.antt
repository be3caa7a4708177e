-- The candidates that one letter gives. Assumes nothing.
use Rattle.std.specs.Prelude.{List, ℕ}
use Rattle.bits.specs.Bits.{bit}
use Rattle.bits.specs.Fields.{stem_entry, stem_target, stem_state}
use Rattle.acceptance.specs.Contexts.{moved_by}
use Rattle.growth.specs.Steps.{gather, only}
use Rattle.automata.specs.Loaded.{cell, steps_of}
use Rattle.stems.specs.declared.Move.{Move}

-- the entry at index `parent` by the letter x
unfoldable pub move_of : (model rule : List (List ℕ)) (parent entry x : ℕ) → Move
move_of model rule parent entry x =
    record {
      successors = cell model x (stem_state entry);
      target = moved_by 8 (steps_of rule) (stem_target entry) x;
      letter = x;
      parent = parent;
    }

-- the candidate at state q
unfoldable pub at_state : Move → ℕ → List ℕ
at_state by q = only (bit by.successors q) (stem_entry by.target q by.letter by.parent)

-- the candidates by one letter, states rising
unfoldable pub at_letter : Move → List ℕ
at_letter by = gather 0 16 (at_state by)
