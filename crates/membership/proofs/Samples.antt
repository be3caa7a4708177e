-- M8 and M9 of document 01, from the definitions: both visit an accepting state, only M8 again and again; and the order of the words' refusals.
-- Assumes nothing.
use mathlib.Core.Path.{◌≡◌, refl}
use mathlib.Core.List.{List, [], ◌∷◌}
use Prim.Native.Nat.{ℕ}
use Rattle.std.specs.Prelude.{true, false, Ok, Err}
use Rattle.bits.specs.Bits.{digit, pack, bit, weight, set_of, any}
use Rattle.bits.specs.Sets.{union, meets, moves_to, moved}
use Rattle.bits.specs.Pairs.{pair, row, pairs}
use Rattle.acceptance.specs.Contexts.{idle, moved_by, passes_by, through_by, moved_all, target, longer, longer_all, context_of}
use Rattle.automata.specs.Repeated.{led_on, via, paths_over, closure, turning, leading_into, repeated_by, repeated}
use Rattle.adding.specs.declared.reason.Reason.TheVariants.{EmptyPeriod, LetterPastLimit}
use Rattle.records.specs.Spelled.{is_record, among, started, start_in, named, states_in, spelled, accepting_in}
use Rattle.records.specs.Faults.{again, fault, first_fault, good_records, head_of, judged, refusal}
use Rattle.membership.specs.Checks.{checked}
use Rattle.membership.specs.Test.{verdict, tested_on, tested}

-- I 0, F 1, T 0 0 1, T 1 0 0
abbrev pub m8 : List ℕ
m8 = 0x49 ∷ 0 ∷ 0 ∷ 0 ∷ 0x46 ∷ 1 ∷ 0 ∷ 0 ∷ 0x54 ∷ 0 ∷ 0 ∷ 1 ∷ 0x54 ∷ 1 ∷ 0 ∷ 0 ∷ []

-- I 0, F 0, T 0 0 1, T 1 0 1
abbrev pub m9 : List ℕ
m9 = 0x49 ∷ 0 ∷ 0 ∷ 0 ∷ 0x46 ∷ 0 ∷ 0 ∷ 0 ∷ 0x54 ∷ 0 ∷ 0 ∷ 1 ∷ 0x54 ∷ 1 ∷ 0 ∷ 1 ∷ []

pub samples : (tested m8 [] (0 ∷ []) ≡ Ok true) × (tested m9 [] (0 ∷ []) ≡ Ok false)
unfolding digit pack bit weight set_of any union meets moves_to moved pair row pairs idle moved_by passes_by through_by moved_all target longer longer_all context_of
    led_on via paths_over closure turning leading_into repeated_by repeated is_record among started start_in named states_in spelled accepting_in again fault first_fault
    good_records head_of judged checked verdict tested_on tested
samples = (refl, refl)

-- 10 comes before 11, 11 in the stem before 11 in the period; its place is the first bad letter's
pub refusals : (tested m8 (16 ∷ []) [] ≡ Err (refusal EmptyPeriod 0 0)) × (tested m8 (0 ∷ 16 ∷ []) (16 ∷ []) ≡ Err (refusal LetterPastLimit 0 1)) × (tested m8 [] (0 ∷ 16 ∷ []) ≡ Err (refusal LetterPastLimit 1 1))
unfolding any is_record among started start_in again fault first_fault good_records head_of judged checked tested_on tested
refusals = (refl, refl, refl)
