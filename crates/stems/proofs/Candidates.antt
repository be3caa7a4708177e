-- The candidates, as the loops take them, are those of the definition. Assumes nothing.
use mathlib.Core.Path.{◌≡◌, refl}
use mathlib.Core.Bool.{true, false}
use mathlib.Core.List.{List, [], ◌∷◌}
use Prim.Native.Nat.{ℕ}
use Rattle.bits.specs.Bits.{bit}
use Rattle.bits.specs.Fields.{stem_entry}
use Rattle.growth.specs.Steps.{gather, steps}
use Rattle.acceptance.specs.Contexts.{moved_by}
use Rattle.automata.specs.declared.Automaton.{Automaton}
use Rattle.automata.specs.Loaded.{aut, aut_of}
use Rattle.stems.specs.Stems.{stem_next}
use Rattle.stems.specs.declared.Move.{Move}
use Rattle.stems.specs.Candidates.{move_of, at_state, at_letter}

module _ (by : Move) (q : ℕ) where
  pub state_some : bit by.successors q ≡ true → at_state by q ≡ stem_entry by.target q by.letter by.parent ∷ []
  unfolding at_state
  state_some p = rw p

  pub state_none : bit by.successors q ≡ false → at_state by q ≡ []
  unfolding at_state
  state_none p = rw p

module _ (model rule : Automaton (List (List ℕ))) where
  -- the candidates by the letter x
  unfoldable pub by_letter : (parent entry x : ℕ) → List ℕ
  by_letter parent entry x = at_letter (move_of model.table rule.table parent entry x)

  pub letters_all : (parent entry : ℕ) → stem_next (aut model) (aut rule) parent entry ≡ gather 0 16 (by_letter parent entry)
  unfolding stem_next steps aut_of moved_by by_letter at_letter at_state move_of
  letters_all parent entry = refl
