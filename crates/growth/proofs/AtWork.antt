-- Small tables, from the definitions alone: what is dropped, where a table stops, and what covers what. Assumes nothing.
use mathlib.Core.Path.{◌≡◌, refl}
use mathlib.Core.Bool.{false, ◌&&◌}
use mathlib.Core.List.{List, [], ◌∷◌, map}
use Prim.Native.Nat.{ℕ, ◌+◌, ◌%◌}
use lib.Dec.{eqb}
use Rattle.bits.specs.Bits.{digit, pack, bit, weight, set_of, any, all}
use Rattle.bits.specs.Sets.{subset, moved, moves_to}
use Rattle.bits.specs.Pairs.{row, pairs, contained_on}
use Rattle.acceptance.specs.Lasso.{Word, Aut, opens}
use Rattle.acceptance.specs.Contexts.{moved_by, passes_by, through_by, idle, longer}
use Rattle.growth.specs.Grow.{Outcome, ended, full, entries, append, offer, grow, table}
use Rattle.growth.specs.Steps.{gather, steps}
use Rattle.growth.specs.Nodes.{Node, seed, child, children, covers_by}
use Rattle.growth.specs.Tables.{smallest, contained, stem_nodes, one_letter, period_nodes}

-- ---- the numbers below 3, each with the other two as candidates

abbrev ring : ℕ → ℕ → List ℕ
ring i e = ((e + 1) % 3) ∷ ((e + 2) % 3) ∷ []

-- each is appended once
pub ring_ends : table eqb ring 3 (0 ∷ 0 ∷ []) ≡ ended (0 ∷ 1 ∷ 2 ∷ [])
unfolding table grow offer append
ring_ends = refl

-- with room for two, the third must be appended and lacks room
pub ring_full : table eqb ring 2 (0 ∷ 0 ∷ []) ≡ full (0 ∷ 1 ∷ [])
unfolding table grow offer append
ring_full = refl

-- ---- document 01's ALL and OFTEN, over two letters

abbrev always : Aut
always = record { start = 0; step = λ p x q. eqb p 0 && eqb q 0; final = eqb 0; mark = λ p x q. false }

-- letter 0 leads to the accepting state 1, letter 1 to state 0
abbrev often : Aut
often = record { start = 0; step = λ p x q. eqb (x + q) 1; final = eqb 1; mark = λ p x q. false }

abbrev words : {L : Type 0} → Outcome (Node L) → List Word
words o = map (λ (e : Node _). e.word) (entries o)

-- one target at two states: neither entry covers the other
pub two_states : words (stem_nodes 2 2 1 often always (smallest 1) 4) ≡ [] ∷ (0 ∷ []) ∷ []
unfolding stem_nodes table grow offer append seed child children covers_by steps gather subset moved moves_to moved_by digit pack bit weight set_of any all
two_states = refl

-- two targets at one state
pub two_targets : words (stem_nodes 2 1 2 always often (smallest 2) 4) ≡ [] ∷ (0 ∷ []) ∷ []
unfolding stem_nodes table grow offer append seed child children covers_by steps gather subset moved moves_to moved_by digit pack bit weight set_of any all
two_targets = refl

-- M1's period table, on the rows of {0}
pub two_contexts : words (period_nodes 2 1 2 always often 0 1 4) ≡ (0 ∷ []) ∷ (1 ∷ []) ∷ []
unfolding period_nodes one_letter contained table grow offer append seed child children covers_by steps gather subset moved moves_to moved_by passes_by through_by idle longer opens row pairs contained_on digit pack bit weight set_of any all
two_contexts = refl
