-- Which rounds there are: by the states of A, and by the entries of W. Assumes nothing.
use mathlib.Core.Path.{◌≡◌, ap, ◌∙◌}
use mathlib.Core.Bool.{Bool, true, false, ◌&&◌, ◌||◌, and-false, or-false}
use mathlib.Core.List.{List, [], ◌∷◌}
use Prim.Native.Nat.{ℕ, zero, suc, ◌≤◌}
use native.Mathlib.Omega.{arith}
use borrow.Author.Tests.{eq-eqb, ne_eqb}
use lib.Dec.{eqb}
use lib.ListN.{length, get_or, length-append}
use Rattle.bits.specs.Bits.{bit, any}
use Rattle.bits.specs.Fields.{stem_state, stem_target}
use Rattle.bits.proofs.Quantifiers.{any_none}
use Rattle.acceptance.specs.Lasso.{Aut}
use Rattle.growth.specs.Steps.{gather, only}
use Rattle.automata.specs.Loaded.{cell, aut_of, aut}
use Rattle.automata.specs.declared.Automaton.{Automaton}
use Rattle.automata.specs.declared.Head.{Head}
use Rattle.walk.specs.Walk.{opening, round_at, rounds_at}
use Rattle.growth.proofs.Gathered.{gather_nothing}

-- no transition of a loaded automaton is itself accepting, so a period may start at the accepting states
pub opening_is : (rows : ℕ → ℕ → ℕ) (head : Head) (s : ℕ) → opening (aut_of rows head) s ≡ bit head.accepting s
unfolding opening aut_of
opening_is rows head s =
    ap (λ (b : Bool). bit head.accepting s || b)
    (any_none (λ x. any (λ q. bit (rows x s) q && false) 16) 16 (λ x l. any_none (λ q. bit (rows x s) q && false) 16 (λ q m. and-false (bit (rows x s) q))))
    ∙ or-false (bit head.accepting s)

-- the round of the entry of W at k
unfoldable pub round_for : Aut → List ℕ → ℕ → ℕ → List (ℕ × ℕ)
round_for A w s k = round_at A s (get_or w k 0)

-- ---- at a state that is not accepting, and of an entry at another state: none

pub no_rounds : (A : Aut) (w : List ℕ) (s : ℕ) → opening A s ≡ false → rounds_at A w s ≡ []
unfolding rounds_at round_for round_at
no_rounds A w s h = gather_nothing (round_for A w s) 0 (length w) (λ k. rw h)

module _ (m : Automaton (List (List ℕ))) (s e : ℕ) (accepting : bit m.head.accepting s ≡ true) where
  pub no_round : (stem_state e ≡ s → ⊥) → round_at (aut m) s e ≡ []
  unfolding round_at
  no_round other = rw (opening_is (cell m.table) m.head s, accepting, ne_eqb (stem_state e) s other)

  pub one_round : stem_state e ≡ s → round_at (aut m) s e ≡ (s, stem_target e) ∷ []
  unfolding round_at
  one_round here = rw (opening_is (cell m.table) m.head s, accepting, eq-eqb (stem_state e) s here)

-- ---- how many

pub round_count : (A : Aut) (w : List ℕ) (s k : ℕ) → length (round_for A w s k) ≤ 1
unfolding round_for round_at
round_count A w s k = at (opening A s && eqb (stem_state (get_or w k 0)) s)
  where
    at : (b : Bool) → length (only {E = ℕ × ℕ} b (s, stem_target (get_or w k 0))) ≤ 1
    at true = omega arith
    at false = omega arith

gather_count : {E : Type 0} (f : ℕ → List E) (i n : ℕ) → ((k : ℕ) → length (f k) ≤ 1) → length (gather i n f) ≤ n
unfolding gather
gather_count f i zero h = omega arith
gather_count f i (suc n) h = omega (arith, length-append (f i) (gather (suc i) n f), h i, gather_count f (suc i) n h)

pub rounds_count : (A : Aut) (w : List ℕ) (s : ℕ) → length (rounds_at A w s) ≤ length w
unfolding rounds_at round_for
rounds_count A w s = gather_count (round_for A w s) 0 (length w) (round_count A w s)
