-- Small period tables, from the definitions alone: contexts are compared on the rows only, each at its own state of A. Assumes nothing.
use mathlib.Core.Path.{◌≡◌, refl}
use mathlib.Core.Bool.{false, ◌&&◌, ◌||◌}
use mathlib.Core.List.{List, [], ◌∷◌, map}
use Prim.Native.Nat.{ℕ}
use lib.Dec.{eqb}
use Rattle.bits.specs.Bits.{digit, pack, bit, weight, set_of, any, all}
use Rattle.bits.specs.Sets.{subset, moves_to, moved}
use Rattle.bits.specs.Pairs.{row, pairs, contained_on}
use Rattle.bits.specs.Fields.{period_link}
use Rattle.acceptance.specs.Lasso.{Aut, opens}
use Rattle.acceptance.specs.Contexts.{moved_by, passes_by, through_by, idle, longer}
use Rattle.growth.specs.Grow.{entries, append, offer, grow, table}
use Rattle.growth.specs.Steps.{gather, steps}
use Rattle.growth.specs.Tables.{contained}
use Rattle.covering.specs.Entries.{Period, period_covers}
use Rattle.periods.specs.Periods.{period_first, word_next, period_next, period_table}

-- letter 0 leads to state 0, letter 1 from state 0 to state 1
abbrev model : Aut
model = record { start = 0; step = λ p x q. eqb x q && (eqb x 0 || eqb p 0 && eqb x 1); final = eqb 0; mark = λ p x q. false }

-- letter 0 leads from each of the states 0 and 1 to itself, and from 0 to 1 besides; letter 1 from 0 to 0
abbrev rule : Aut
rule = record { start = 0; step = λ p x q. eqb x 0 && (eqb p 0 || eqb p 1) && (eqb q p || eqb q 1) || eqb x 1 && eqb p 0 && eqb q 0; final = eqb 1; mark = λ p x q. false }

abbrev links_on : ℕ → List ℕ
links_on rows = map (λ (e : Period). e.link) (entries (period_table model rule 0 rows 8))

-- by states, letters, parents: the period 1 0 differs from 0 on the row of state 1 alone; on no rows each state of A has one period
pub periods_kept : (links_on 0 ≡ period_link 0 0 65535 ∷ period_link 1 1 65535 ∷ []) × (links_on 1 ≡ period_link 0 0 65535 ∷ period_link 1 1 65535 ∷ [])
    × (links_on 3 ≡ period_link 0 0 65535 ∷ period_link 1 1 65535 ∷ period_link 0 0 1 ∷ [])
unfolding digit pack bit weight set_of any all subset moves_to moved row pairs contained_on opens moved_by passes_by through_by idle longer append offer grow table gather steps contained period_covers period_first word_next period_next period_table
periods_kept = (refl, refl, refl)
