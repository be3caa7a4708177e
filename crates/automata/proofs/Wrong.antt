-- Wrong answers that the contracts rule out, on an input each. Assumes nothing.
use mathlib.Core.Bool.{true}
use mathlib.Core.List.{List, ◌∷◌}
use mathlib.Core.Path.{refl, ap}
use Prim.Native.Nat.{ℕ, ◌+◌, ◌*◌, ◌^◌}
use native.Mathlib.Omega.{arith}
use base.Fml.{Lft}
use denote.Array.{Array}
use denote.Ref.{Bor}
use denote.Param.Laws.{Laws, IsCopy}
use denote.Struct.Field.{u8-field, u16-field, u64-field}
use lib.Dec.{lit<}
use mir.Syntax.{Dict}
use Rattle.std.specs.declared.clone.Clone.{Ghosts}
use Rattle.bits.specs.Bits.{digit, pack, bit, weight, set_of, any, values}
use Rattle.bits.specs.Sets.{union, meet, meets, moves_to, moved}
use Rattle.bits.specs.Pairs.{pair, row, pairs}
use Rattle.bits.specs.contracts.members.U8Set.TheImpl as u8
use Rattle.bits.specs.contracts.members.U16Set.TheImpl as u16
use Rattle.bits.proofs.Refuses.{Refuses, lent}
use Rattle.acceptance.specs.Contexts.{Context, idle, moved_by, passes_by, through_by, longer}
use Rattle.automata.specs.Loaded.{cell, aut_of, listed}
use Rattle.automata.specs.Repeated.{led_on, via, paths_over, closure, turning, leading_into, repeated_by, repeated}
use Rattle.automata.specs.declared.Head.{Head}
use Rattle.automata.specs.declared.Automaton.{Automaton}
use Rattle.automata.specs.declared.Context.{Context as Held}
use Rattle.automata.specs.contracts.relations.U64Relation.TheImpl as u64
use Rattle.automata.specs.contracts.relations.ArrayU1616Relation.TheImpl as rows16
use Rattle.automata.specs.contracts.tables.ArrayArrayU8816Table.TheImpl as table8
use Rattle.automata.specs.contracts.tables.ArrayArrayU161616Table.TheImpl as table16
use Rattle.automata.proofs.Context.idle.Reads as idling
use Rattle.automata.proofs.Context.repeated.Reads as repeating
use Rattle.automata.proofs.Automaton.longer.Reads as lengthening
use Rattle.automata.proofs.Automaton.idle.Reads as loaded_idling
use Rattle.automata.proofs.relations.U64Relation.row.Reads as row_of
use Rattle.automata.proofs.relations.U64Relation.led_on.Reads as leading_on
use Rattle.automata.proofs.relations.U64Relation.met.Reads as meeting
use Rattle.automata.proofs.relations.U64Relation.with_itself.Reads as with_itself
use Rattle.automata.proofs.relations.U64Relation.is_none.Reads as is_none
use Rattle.automata.proofs.tables.ArrayArrayU8816Table.steps.Reads as stepping

-- eight and sixteen rows, of which those of 0 and 1 are not empty
abbrev eight : ℕ → ℕ → List ℕ
eight p q = p ∷ q ∷ values (λ i. 0) 6

abbrev sixteen : ℕ → ℕ → List ℕ
sixteen p q = p ∷ q ∷ values (λ i. 0) 14

abbrev context8 : ℕ → ℕ → Held ℕ
context8 reach through = record { reach = reach; through = through }

abbrev context16 : List ℕ → List ℕ → Held (List ℕ)
context16 reach through = record { reach = reach; through = through }

-- what a result says through acceptance
abbrev passes : Context → ℕ
passes c = c.through

abbrev itself : List ℕ
itself = values (λ q. 2 ^ q) 16

abbrev head : Head
head = record { start = 0; accepting = 2; states = 2 }

abbrev turns : List ℕ → List (List ℕ)
turns rows = values (λ x. rows) 16

abbrev loaded : List (List ℕ) → Automaton (List (List ℕ))
loaded table = record { table = table; head = head }

-- ---- relations of eight states

-- row 0 of 769, which has the rows 1 and 3, for row 1, and row 1 for row 0
module _ (κ : Lft) where
  pub first_row : Refuses row_of.Post {k = (κ, _)} (lent 769, (1, _)) 1
  unfolding row digit
  first_row x p = omega (arith, p)

  pub second_row : Refuses row_of.Post {k = (κ, _)} (lent 769, (0, _)) 3
  unfolding row digit
  second_row x p = omega (arith, p)

-- 0 and 1 lead to 0, and are led on to 1 and 2: 0 alone, and neither
pub first_led_on : Refuses leading_on.Post (0, (257, (0, (6, _)))) 6
unfolding led_on union set_of pair row pairs pack weight bit digit
first_led_on x p = omega (arith, p)

pub none_led_on : Refuses leading_on.Post (0, (257, (0, (6, _)))) 0
unfolding led_on union set_of pair row pairs pack weight bit digit
none_led_on x p = omega (arith, p)

-- 0 leads to 0, which accepts, and to 1: nothing has met acceptance but what had before, and all has
pub none_met : Refuses meeting.Post (4, (3, (1, _))) 4
unfolding union meet set_of row pairs pack weight bit digit
none_met x p = omega (arith, p)

pub all_met : Refuses meeting.Post (4, (3, (1, _))) 7
unfolding union meet set_of row pairs pack weight bit digit
all_met x p = omega (arith, p)

-- no state to itself, and each to 0
pub not_itself : Refuses with_itself.Post (0, _) 0
unfolding paths_over union set_of row pairs pack weight bit digit
not_itself x p = omega (arith, p)

pub all_to_first : Refuses with_itself.Post (0, _) 0x0101010101010101
unfolding paths_over union set_of row pairs pack weight bit digit
all_to_first x p = omega (arith, p)

-- a pair called none
pub pair_called_none : Refuses is_none.Post (1, _) true
pair_called_none x p = omega (arith, p refl)

-- ---- the pairs of a letter, whose rows are 2 and 0: the columns for the rows, and those of row 0 alone in row 1

module _ (κ : Lft) where
  pub columns_stepped : Refuses stepping.Post {k = (κ, _)} (lent (turns (eight 2 0)), (0, _)) 256
  unfolding cell values row digit
  columns_stepped x p = omega (arith, p 0 (lit< tt))

  pub row_below : Refuses stepping.Post {k = (κ, _)} (lent (turns (eight 2 0)), (0, _)) 512
  unfolding cell values row digit
  row_below x p = omega (arith, p 0 (lit< tt))

-- the contracts at eight states, whatever is known besides of the types and of their copies
module _ (κ : Lft) (L : Laws (Array (Array u8-field.row 8) 16)) (L1 : Laws u64-field.row) (L2 : Laws u8-field.row) (C1 : IsCopy u64-field.row) (C2 : IsCopy u8-field.row) (K1 K2 : Ghosts ℕ) (D D1 D2 D3 D4 : Dict) where
  abbrev IdleRefuses8 : ℕ × Unit {0} → Held ℕ → Type 0
  IdleRefuses8 a r = Refuses (idling.Post _ _ L1 L2 C1 C2 u64.ghosts D1 K1 D2 u8.ghosts D3 K2 D4) {k = (κ, (κ, _))} a r

  abbrev LongerRefuses8 : Bor (Automaton (List (List ℕ))) × (Held ℕ × (ℕ × Unit {0})) → Held ℕ → Type 0
  LongerRefuses8 a r = Refuses (lengthening.Post _ _ _ L L1 L2 C1 C2 table8.ghosts D u64.ghosts D1 K1 D2 u8.ghosts D3 K2 D4) {k = (κ, (κ, (κ, (κ, _))))} a r

  abbrev LoadedRefuses8 : Bor (Automaton (List (List ℕ))) × Unit {0} → Held ℕ → Type 0
  LoadedRefuses8 a r = Refuses (loaded_idling.Post _ _ _ L L1 L2 C1 C2 table8.ghosts D u64.ghosts D1 K1 D2 u8.ghosts D3 K2 D4) {k = (κ, (κ, (κ, (κ, _))))} a r

  abbrev RepeatedRefuses8 : Held ℕ × Unit {0} → ℕ → Type 0
  RepeatedRefuses8 a r = Refuses (repeating.Post _ _ L1 L2 C1 C2 u64.ghosts D1 K1 D2 u8.ghosts D3 K2 D4) {k = (κ, (κ, _))} a r

  -- ---- the empty word, where 0 accepts and no other state: no state accepts, all do

  pub none_accepts : IdleRefuses8 (1, _) (context8 0x8040201008040201 0)
  unfolding idle pairs pack weight bit digit
  none_accepts x p = omega (arith, ap passes p)

  pub all_accept : IdleRefuses8 (1, _) (context8 0x8040201008040201 0x8040201008040201)
  unfolding idle pairs pack weight bit digit
  all_accept x p = omega (arith, ap passes p)

  -- ---- one letter more, where each letter leads from 0 to 1 and back and 1 accepts

  -- after a word of one letter: acceptance in the middle is forgotten
  pub ends_only : LongerRefuses8 (lent (loaded (turns (eight 2 1))), (context8 258 258, (0, _))) (context8 513 512)
  unfolding longer moved_by through_by passes_by moved moves_to set_of any values cell aut_of row pairs pack weight bit digit
  ends_only x p = omega (arith, ap passes p)

  -- after the empty word: the accepting states that are left count, and not those that are entered
  pub states_left : LongerRefuses8 (lent (loaded (turns (eight 2 1))), (context8 513 512, (0, _))) (context8 258 768)
  unfolding longer moved_by through_by passes_by moved moves_to set_of any values cell aut_of row pairs pack weight bit digit
  states_left x p = omega (arith, ap passes p)

  -- by a letter that leads from 0 to 1 only: its columns are taken for its rows
  pub columns_for_rows : LongerRefuses8 (lent (loaded (turns (eight 2 0))), (context8 513 512, (0, _))) (context8 256 256)
  unfolding longer moved_by through_by passes_by moved moves_to set_of any values cell aut_of row pairs pack weight bit digit
  columns_for_rows x p = omega (arith, ap passes p)

  -- the empty word's, of the automaton itself: no state accepts, and 0 does
  pub loaded_none_accepts : LoadedRefuses8 (lent (loaded (turns (eight 2 1))), _) (context8 0x8040201008040201 0)
  unfolding idle aut_of pairs pack weight bit digit
  loaded_none_accepts x p = omega (arith, ap passes p)

  pub loaded_start_accepts : LoadedRefuses8 (lent (loaded (turns (eight 2 1))), _) (context8 0x8040201008040201 1)
  unfolding idle aut_of pairs pack weight bit digit
  loaded_start_accepts x p = omega (arith, ap passes p)

  -- ---- a period for ever

  -- M8, two states by turns: no loop after one period, so nothing is accepted
  pub one_period : RepeatedRefuses8 (context8 258 258, _) 0
  unfolding repeated repeated_by closure paths_over via led_on turning leading_into union meets set_of any pair row pairs pack weight bit digit
  one_period x p = omega (arith, p)

  -- M9, 0 accepts and is left for ever: a visit to it, reach in place of through, is enough
  pub any_visit : RepeatedRefuses8 (context8 514 2, _) 3
  unfolding repeated repeated_by closure paths_over via led_on turning leading_into union meets set_of any pair row pairs pack weight bit digit
  any_visit x p = omega (arith, p)

  -- 0, 1 and the last state in turn, accepting between 0 and 1: the last state is no step on the way
  pub last_left_out : RepeatedRefuses8 (context8 (2 + 256 * 128 + 2 ^ 56) 2, _) 0
  unfolding repeated repeated_by closure paths_over via led_on turning leading_into union meets set_of any pair row pairs pack weight bit digit
  last_left_out x p = omega (arith, p)

-- the same at sixteen states
module _ (κ : Lft) (L : Laws (Array (Array u16-field.row 16) 16)) (L1 : Laws (Array u16-field.row 16)) (L2 : Laws u16-field.row) (C1 : IsCopy (Array u16-field.row 16)) (C2 : IsCopy u16-field.row) (K1 : Ghosts (List ℕ)) (K2 : Ghosts ℕ) (D D1 D2 D3 D4 : Dict) where
  abbrev IdleRefuses16 : ℕ × Unit {0} → Held (List ℕ) → Type 0
  IdleRefuses16 a r = Refuses (idling.Post _ _ L1 L2 C1 C2 rows16.ghosts D1 K1 D2 u16.ghosts D3 K2 D4) {k = (κ, (κ, _))} a r

  abbrev LongerRefuses16 : Bor (Automaton (List (List ℕ))) × (Held (List ℕ) × (ℕ × Unit {0})) → Held (List ℕ) → Type 0
  LongerRefuses16 a r = Refuses (lengthening.Post _ _ _ L L1 L2 C1 C2 table16.ghosts D rows16.ghosts D1 K1 D2 u16.ghosts D3 K2 D4) {k = (κ, (κ, (κ, (κ, _))))} a r

  abbrev RepeatedRefuses16 : Held (List ℕ) × Unit {0} → ℕ → Type 0
  RepeatedRefuses16 a r = Refuses (repeating.Post _ _ L1 L2 C1 C2 rows16.ghosts D1 K1 D2 u16.ghosts D3 K2 D4) {k = (κ, (κ, _))} a r

  pub none_accepts16 : IdleRefuses16 (1, _) (context16 itself (sixteen 0 0))
  unfolding idle listed values pairs pack weight bit digit
  none_accepts16 x p = omega (arith, ap passes p)

  pub all_accept16 : IdleRefuses16 (1, _) (context16 itself itself)
  unfolding idle listed values row pairs pack weight bit digit
  all_accept16 x p = omega (arith, ap (λ (c : Context). row 16 c.through 1) p)

  pub ends_only16 : LongerRefuses16 (lent (loaded (turns (sixteen 2 1))), (context16 (sixteen 2 1) (sixteen 2 1), (0, _))) (context16 (sixteen 1 2) (sixteen 0 2))
  unfolding longer moved_by through_by passes_by moved moves_to set_of any values cell aut_of listed row pairs pack weight bit digit
  ends_only16 x p = omega (arith, ap passes p)

  pub states_left16 : LongerRefuses16 (lent (loaded (turns (sixteen 2 1))), (context16 (sixteen 1 2) (sixteen 0 2), (0, _))) (context16 (sixteen 2 1) (sixteen 0 3))
  unfolding longer moved_by through_by passes_by moved moves_to set_of any values cell aut_of listed row pairs pack weight bit digit
  states_left16 x p = omega (arith, ap passes p)

  pub one_period16 : RepeatedRefuses16 (context16 (sixteen 2 1) (sixteen 2 1), _) 0
  unfolding repeated repeated_by closure paths_over via led_on turning leading_into union meets set_of any pair row pairs pack weight bit digit listed values
  one_period16 x p = omega (arith, p)

  pub any_visit16 : RepeatedRefuses16 (context16 (sixteen 2 2) (sixteen 2 0), _) 3
  unfolding repeated repeated_by closure paths_over via led_on turning leading_into union meets set_of any pair row pairs pack weight bit digit listed values
  any_visit16 x p = omega (arith, p)
