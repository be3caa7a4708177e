-- Small stem tables, from the definitions alone: U keeps the smallest targets, W the largest, each at its own state of A. Assumes nothing.
use mathlib.Core.Path.{◌≡◌, refl}
use mathlib.Core.Bool.{true, false, ◌&&◌, ◌||◌}
use mathlib.Core.List.{[], ◌∷◌}
use lib.Dec.{eqb}
use Rattle.bits.specs.Bits.{digit, pack, bit, weight, set_of, any, all}
use Rattle.bits.specs.Sets.{subset, moves_to, moved}
use Rattle.bits.specs.Fields.{stem_entry}
use Rattle.acceptance.specs.Lasso.{Aut}
use Rattle.acceptance.specs.Contexts.{moved_by}
use Rattle.growth.specs.Grow.{ended, append, offer, grow, table}
use Rattle.growth.specs.Steps.{gather, steps}
use Rattle.stems.specs.Stems.{target_covers, stem_covers, stem_root, stem_next, stem_table}

-- letter 0 leads to state 0, letter 1 from state 0 to state 1
abbrev model : Aut
model = record { start = 0; step = λ p x q. eqb x q && (eqb x 0 || eqb p 0 && eqb x 1); final = eqb 0; mark = λ p x q. false }

-- letter 0 leads from each of the states 0 and 1 to itself, and from 0 to 1 besides; letter 1 from 0 to 0
abbrev rule : Aut
rule = record { start = 0; step = λ p x q. eqb x 0 && (eqb p 0 || eqb p 1) && (eqb q p || eqb q 1) || eqb x 1 && eqb p 0 && eqb q 0; final = eqb 1; mark = λ p x q. false }

-- by targets, states, letters, parents: the target {0, 1} is one of W's and not of U's
pub stems_kept : (stem_table model rule false 8 ≡ ended (stem_entry 1 0 0 0 ∷ stem_entry 1 1 1 0 ∷ []))
    × (stem_table model rule true 8 ≡ ended (stem_entry 1 0 0 0 ∷ stem_entry 3 0 0 0 ∷ stem_entry 1 1 1 0 ∷ []))
unfolding digit pack bit weight set_of any all subset moves_to moved moved_by append offer grow table gather steps target_covers stem_covers stem_root stem_next stem_table
stems_kept = (refl, refl)
