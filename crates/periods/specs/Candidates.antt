-- The candidates that one letter gives. Assumes nothing.
use Rattle.std.specs.Prelude.{List, ℕ}
use Rattle.bits.specs.Bits.{bit}
use Rattle.bits.specs.Fields.{period_link}
use Rattle.acceptance.specs.Lasso.{Aut}
use Rattle.acceptance.specs.Contexts.{longer}
use Rattle.growth.specs.Steps.{gather, only}
use Rattle.automata.specs.Loaded.{cell, of_pairs, as_pairs}
use Rattle.covering.specs.Entries.{Period}
use Rattle.periods.specs.declared.table.Word.{Word}
use Rattle.periods.specs.declared.table.Move.{Move}

-- a word by the letter x; `model` has A's transitions
unfoldable pub move_of : (model : List (List ℕ)) → Aut → Word → ℕ → Move
move_of model B word x =
    record {
      successors = cell model x word.state;
      letter = x;
      parent = word.parent;
      context = as_pairs (longer 8 B (of_pairs word.context) x);
    }

-- the candidate at the state q, if the letter leads to q
unfoldable pub at_state : Move → ℕ → List Period
at_state by q = only (bit by.successors q) (record { link = period_link q by.letter by.parent; context = of_pairs by.context })

-- the candidates by one letter, states rising
unfoldable pub at_letter : Move → List Period
at_letter by = gather 0 16 (at_state by)
