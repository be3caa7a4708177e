-- The walk at the sample models of document 01, from the definitions alone: M1 to M7 in one list, and pairs that tell document 01's shortcuts from the
-- walk. Assumes nothing.
use mathlib.Core.Path.{◌≡◌, refl}
use mathlib.Core.Bool.{Bool, false, ◌&&◌, ◌||◌}
use mathlib.Core.List.{List, [], ◌∷◌, map}
use Prim.Native.Nat.{ℕ}
use lib.Dec.{eqb}
use lib.ListN.{length}
use Rattle.bits.specs.Bits.{digit, pack, bit, weight, set_of, any, all}
use Rattle.bits.specs.Sets.{subset, union, meets, moves_to, moved}
use Rattle.bits.specs.Pairs.{pair, row, pairs, contained_on}
use Rattle.acceptance.specs.Lasso.{Aut, opens}
use Rattle.acceptance.specs.Contexts.{idle, moved_by, passes_by, through_by, longer}
use Rattle.growth.specs.Grow.{append, offer, grow, table}
use Rattle.growth.specs.Steps.{gather, steps}
use Rattle.growth.specs.Tables.{contained}
use Rattle.automata.specs.Repeated.{via, paths_over, closure, turning, led_on, leading_into, repeated_by, repeated}
use Rattle.stems.specs.Stems.{target_covers, stem_covers, stem_root, stem_next, stem_table}
use Rattle.covering.specs.Entries.{period_covers, contexts_of}
use Rattle.periods.specs.Periods.{period_first, word_next, period_next, period_table}
use Rattle.walk.specs.Words.{chain}
use Rattle.walk.specs.Walk.{Verdict, included, shown, stems_full, periods_full, Walked, search, opening, round_at, rounds_at, rounds, fits, pairs_of, accepts, run, walk}

-- some element of a list has f
abbrev some : {E : Type 0} → (E → Bool) → List E → Bool
some f [] = false
some f (e ∷ es) = f e || some f es

-- the automaton of the records `I start`, an F for each final state and a T for each transition
abbrev spelled : ℕ → List ℕ → List (ℕ × ℕ × ℕ) → Aut
spelled start finals transitions = record {
  start = start;
  step = λ p x q. some (λ (a : ℕ × ℕ × ℕ). eqb a.0 p && (eqb a.1 x && eqb a.2 q)) transitions;
  final = λ q. some (eqb q) finals;
  mark = λ p x q. false;
}

abbrev ALL : Aut
ALL = spelled 0 (0 ∷ []) ((0, 0, 0) ∷ (0, 1, 0) ∷ [])

abbrev OFTEN : Aut
OFTEN = spelled 0 (1 ∷ []) ((0, 0, 1) ∷ (0, 1, 0) ∷ (1, 0, 1) ∷ (1, 1, 0) ∷ [])

-- one letter for ever, accepting nowhere, and where it is
abbrev LOOP : Aut
LOOP = spelled 0 [] ((0, 0, 0) ∷ [])

abbrev ONCE : Aut
ONCE = spelled 0 (0 ∷ []) ((0, 0, 0) ∷ [])

abbrev NOTHING : Aut
NOTHING = spelled 0 [] []

-- the verdict and the counts u, w, p, t
abbrev told : Walked → Verdict × ℕ × ℕ × ℕ × ℕ
told r = (r.finish.verdict, length r.smallest, length r.largest, r.finish.periods, r.finish.tests)

-- M1 to M7, in the order of document 01
abbrev samples : List Walked
samples =
    walk ALL OFTEN 4096 2048 ∷ walk OFTEN ALL 4096 2048 ∷ walk OFTEN OFTEN 4096 2048 ∷ walk LOOP NOTHING 4096 2048 ∷ walk ONCE NOTHING 4096 2048
    ∷ walk ALL OFTEN 1 2048 ∷ walk ALL OFTEN 2 2048 ∷ walk ALL OFTEN 4096 1 ∷ walk ALL OFTEN 4096 2 ∷ []

-- a public trip, or a test trip that a public one follows; and a rule that settles for public trips at some time
abbrev PAIRED : Aut
PAIRED = spelled 0 (0 ∷ []) ((0, 0, 0) ∷ (0, 1, 1) ∷ (1, 0, 0) ∷ [])

abbrev SETTLED : Aut
SETTLED = spelled 0 (1 ∷ []) ((0, 0, 0) ∷ (0, 0, 1) ∷ (0, 1, 0) ∷ (1, 0, 1) ∷ [])

-- where document 01's shortcuts would give the other verdict:
-- one period table for all w on the rows of the first, or W by smallest targets (included); an entry at another state of A covers (included);
-- a loop after one period only (shown); acceptance only where a period starts or ends (shown); any visit to an accepting state is enough (included).
-- And where these would be seen: v as the outer loop (another lasso); p the last table's number (0); a word in front order (1 0)
abbrev pitfalls : List Walked
pitfalls =
    walk PAIRED SETTLED 4096 2048
    ∷ walk (spelled 0 (1 ∷ []) ((0, 1, 1) ∷ (1, 1, 1) ∷ [])) (spelled 0 (0 ∷ 1 ∷ []) []) 4096 2048
    ∷ walk ONCE (spelled 0 (0 ∷ 1 ∷ []) ((0, 0, 1) ∷ (1, 0, 0) ∷ [])) 4096 2048
    ∷ walk ONCE (spelled 0 (1 ∷ 2 ∷ []) ((0, 0, 2) ∷ (2, 0, 0) ∷ [])) 4096 2048
    ∷ walk ONCE (spelled 0 (1 ∷ 2 ∷ []) ((0, 0, 0) ∷ (0, 0, 1) ∷ [])) 4096 2048
    ∷ walk (spelled 1 (0 ∷ []) ((1, 0, 0) ∷ (1, 1, 0) ∷ (0, 0, 0) ∷ (0, 1, 0) ∷ [])) (spelled 2 (0 ∷ 1 ∷ []) ((2, 0, 0) ∷ (2, 0, 1) ∷ (2, 1, 0) ∷ (0, 0, 0) ∷ (1, 0, 1) ∷ [])) 4096 2048
    ∷ walk (spelled 0 (0 ∷ 1 ∷ []) ((0, 0, 0) ∷ (0, 1, 1) ∷ [])) ALL 4096 2048
    ∷ walk (spelled 2 (0 ∷ []) ((2, 0, 1) ∷ (1, 1, 0) ∷ (0, 0, 0) ∷ [])) NOTHING 4096 2048 ∷ []

pub samples_told : (map told samples ≡
    (shown [] (1 ∷ []), 2, 2, 2, 2) ∷ (included, 2, 2, 2, 1) ∷ (included, 2, 2, 2, 1) ∷ (included, 2, 1, 0, 0) ∷ (shown [] (0 ∷ []), 2, 1, 1, 1)
    ∷ (stems_full 0, 1, 0, 0, 0) ∷ (shown [] (1 ∷ []), 2, 2, 2, 2) ∷ (periods_full, 2, 2, 1, 0) ∷ (shown [] (1 ∷ []), 2, 2, 2, 2) ∷ [])
    × (map told pitfalls ≡
    (shown [] (1 ∷ 0 ∷ []), 2, 3, 3, 3) ∷ (shown (1 ∷ []) (1 ∷ []), 2, 2, 1, 1) ∷ (included, 2, 2, 2, 4) ∷ (included, 2, 2, 2, 4) ∷ (shown [] (0 ∷ []), 1, 2, 1, 1)
    ∷ (shown (0 ∷ []) (1 ∷ []), 4, 2, 2, 2) ∷ (included, 2, 2, 2, 1) ∷ (shown (0 ∷ 1 ∷ []) (0 ∷ []), 3, 3, 1, 1) ∷ [])
unfolding digit pack bit weight set_of any all subset union meets moves_to moved pair row pairs contained_on opens moved_by passes_by through_by idle longer via paths_over closure turning led_on leading_into repeated_by repeated append offer grow table gather steps target_covers stem_covers stem_root stem_next stem_table period_covers contained period_first word_next period_next period_table chain search opening round_at rounds_at rounds contexts_of fits pairs_of accepts run walk
samples_told = (refl, refl)
