-- The walk of document 01 for a model A and a rule B, with room for S stems and P periods. Assumes nothing.
use Rattle.std.specs.Prelude.{Bool, true, false, ◌&&◌, ◌||◌, List, [], ◌∷◌, ℕ, suc, ◌*◌, ◌^◌, max, eqb, length, get_or}
use Rattle.bits.specs.Bits.{any}
use Rattle.bits.specs.Sets.{subset, meets}
use Rattle.bits.specs.Fields.{stem_state, stem_target, link_state}
use Rattle.acceptance.specs.Lasso.{Word, Aut}
use Rattle.growth.specs.Grow.{ended, full}
use Rattle.growth.specs.Steps.{gather, only, steps}
use Rattle.automata.specs.Repeated.{repeated}
use Rattle.stems.specs.Stems.{stem_table}
use Rattle.covering.specs.Entries.{Period, links_of, contexts_of, context_in}
use Rattle.periods.specs.Periods.{period_table}
use Rattle.walk.specs.Words.{stem_word, period_word}

-- included and shown are document 01's answer 0, stems_full is 8 (0 for U, 1 for W), periods_full is 9
pub data Verdict : Type 0 where
  included : Verdict
  shown : Word → Word → Verdict
  stems_full : ℕ → Verdict
  periods_full : Verdict

-- the verdict, the largest number of entries that a period table had, and the tests made
pub record Finish : Type 0 where
  pub verdict : Verdict
  pub periods : ℕ
  pub tests : ℕ

-- the tables U and W, and the rest
pub record Walked : Type 0 where
  pub smallest : List ℕ
  pub largest : List ℕ
  pub finish : Finish

-- all lassos passed, or the first rejected one by its indices; with the tests made
pub data Search : Type 0 where
  passed : ℕ → Search
  rejected : ℕ → ℕ → ℕ → Search

-- tests the pairs in order, up to the first rejected one; t tests were made before
unfoldable pub search : (ℕ → ℕ → Bool) → List (ℕ × ℕ) → ℕ → Search
search accepts [] t = passed t
search accepts (c ∷ cs) t = elim (accepts c.0 c.1) [ true ↦ search accepts cs (suc t) | false ↦ rejected (suc t) c.0 c.1 ]

-- a stem at s, with target inside the rows
unfoldable pub fits : (s rows entry : ℕ) → Bool
fits s rows e = eqb (stem_state e) s && subset 8 (stem_target e) rows

module _ (u : List ℕ) where
  -- each such u in table order, and for each every v at s in table order: their indices
  unfoldable pub pairs_of : (s rows : ℕ) (links : List ℕ) → List (ℕ × ℕ)
  pairs_of s rows links = steps (length u) (length links) (λ i j. fits s rows (get_or u i 0) && eqb (link_state (get_or links j 0)) s) (λ i j. (i, j))

  -- one test of a lasso on B
  unfoldable pub accepts : (contexts : List ℕ) → ℕ → ℕ → Bool
  accepts contexts i j = meets 8 (stem_target (get_or u i 0)) (repeated 8 (context_in contexts j))

  -- the tests of the round of s and rows, where v is its period table
  abbrev pub search_round : ℕ × ℕ → List Period → ℕ → Search
  search_round c v t = search (accepts (contexts_of v)) (pairs_of c.0 c.1 (links_of v)) t

-- a period may start at s: it is accepting, or a transition from it is (none in the base)
unfoldable pub opening : Aut → ℕ → Bool
opening A s = A.final s || any (λ x. any (λ q. A.step s x q && A.mark s x q) 16) 16

-- the round of an entry e of W, where a period may start at s and e is at s: s and e's target
unfoldable pub round_at : Aut → ℕ → ℕ → List (ℕ × ℕ)
round_at A s e = only (opening A s && eqb (stem_state e) s) (s, stem_target e)

-- those of each entry w of W, in table order
unfoldable pub rounds_at : Aut → List ℕ → ℕ → List (ℕ × ℕ)
rounds_at A w s = gather 0 (length w) (λ k. round_at A s (get_or w k 0))

module _ (A B : Aut) where
  -- for each s, rising
  unfoldable pub rounds : List ℕ → List (ℕ × ℕ)
  rounds w = gather 0 16 (rounds_at A w)

  module _ (u : List ℕ) where
    -- the rounds in order, each with its period table built afresh; p and t are the counts so far
    unfoldable pub run : ℕ → List (ℕ × ℕ) → ℕ → ℕ → Finish
    run room [] p t = record { verdict = included; periods = p; tests = t }
    run room (c ∷ cs) p t =
        elim (period_table A B c.0 c.1 room) [
          | full v ↦ record { verdict = periods_full; periods = max p (length v); tests = t }
          | ended v ↦
              elim (search_round u c v t) [
                | passed k ↦ run room cs (max p (length v)) k
                | rejected k i j ↦ record { verdict = shown (stem_word u i) (period_word (links_of v) j); periods = max p (length v); tests = k }
              ]
        ]

  -- U, then W, then the rounds
  unfoldable pub walk : ℕ → ℕ → Walked
  walk S P =
      elim (stem_table A B false S) [
        | full u ↦ record { smallest = u; largest = []; finish = record { verdict = stems_full 0; periods = 0; tests = 0 } }
        | ended u ↦
            elim (stem_table A B true S) [
              | full w ↦ record { smallest = u; largest = w; finish = record { verdict = stems_full 1; periods = 0; tests = 0 } }
              | ended w ↦ record { smallest = u; largest = w; finish = run u P (rounds w) 0 0 }
            ]
      ]

-- the walk without room: with the room that no walk of automata with a and b states can lack
unfoldable pub unhindered : Aut → Aut → (a b : ℕ) → Walked
unhindered A B a b = walk A B (a * 2 ^ b) (a * 3 ^ (b * b))
