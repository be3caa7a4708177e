-- Wrong answers that the contracts rule out, on an input each. Assumes nothing.
use mathlib.Core.Bool.{true, false, false≢true}
use mathlib.Core.List.{List, [], ◌∷◌, ◌++◌}
use mathlib.Core.Path.{sym}
use Prim.Native.Nat.{ℕ, ◌+◌, ◌*◌, ◌/◌, ◌%◌}
use native.Mathlib.Omega.{arith}
use base.Fml.{Lft}
use mir.Syntax.{Dict}
use denote.Param.Laws.{Laws, IsCopy}
use denote.Struct.Field.{u8-field, u16-field}
use Rattle.std.specs.declared.clone.Clone.{Ghosts}
use Rattle.bits.specs.Bits.{digit, pack, bit, weight, set_of, any, all}
use Rattle.bits.specs.Sets.{subset, union, meets, moves_to, moved, by_sets}
use Rattle.bits.specs.Pairs.{row, pairs, rows_of}
use Rattle.bits.specs.Fields.{stem_entry, stem_state, stem_letter, period_link, link_state, link_letter}
use Rattle.bits.proofs.Refuses.{Refuses, lent}
use Rattle.bits.specs.contracts.members.U8Set.TheImpl as u8
use Rattle.bits.specs.contracts.members.U16Set.TheImpl as u16
use Rattle.bits.proofs.members.U16Set.has.Reads as has
use Rattle.bits.proofs.members.U8Set.only.Reads as only
use Rattle.bits.proofs.members.U8Set.below.Reads as below
use Rattle.bits.proofs.members.U8Set.union.Reads as joining
use Rattle.bits.proofs.members.U8Set.meets.Reads as meeting
use Rattle.bits.proofs.members.within.Reads as within
use Rattle.bits.proofs.members.moved.Reads as moving
use Rattle.bits.proofs.rows.row_of.Reads as row_of
use Rattle.bits.proofs.rows.rows.Reads as rows
use Rattle.bits.proofs.entries.stem_entry.Reads as StemEntry
use Rattle.bits.proofs.entries.stem_target.Reads as StemTarget
use Rattle.bits.proofs.entries.stem_state.Reads as StemState
use Rattle.bits.proofs.entries.stem_letter.Reads as StemLetter
use Rattle.bits.proofs.entries.stem_parent.Reads as StemParent
use Rattle.bits.proofs.entries.period_link.Reads as PeriodLink
use Rattle.bits.proofs.entries.link_state.Reads as LinkState
use Rattle.bits.proofs.entries.link_letter.Reads as LinkLetter
use Rattle.bits.proofs.entries.link_parent.Reads as LinkParent

-- ---- members of 5, the set of 0 and 2

-- whether the next number is a member; that every number is
pub next_member : Refuses has.Post (5, (0, _)) (bit 5 1)
unfolding bit digit
next_member x p = false≢true p

pub every_member : Refuses has.Post (5, (1, _)) true
unfolding bit digit
every_member x p = false≢true (sym p)

-- that 5 is within 7, asked the other way round; that it is within 4, which lacks one of its members
pub other_way : Refuses within.Post (5, (7, _)) (subset 8 7 5)
unfolding subset all bit digit
other_way x p = false≢true p

pub one_missing : Refuses within.Post (5, (4, _)) true
unfolding subset all bit digit
one_missing x p = false≢true (sym p)

-- ---- sets in a u8: the member 3 whatever the test, and the number 3; none of a set that is cut, and all of it; the common members for all, and one
-- set alone; 0 and 2 called to meet 1, and not to meet 1 and 2

pub untested : Refuses only.Post (3, (false, _)) 8
unfolding weight
untested x p = omega (arith, p)

pub number_for_set : Refuses only.Post (3, (true, _)) 3
unfolding weight
number_for_set x p = omega (arith, p)

pub none_below : Refuses below.Post (257, _) 0
unfolding set_of pack weight bit digit
none_below x p = omega (arith, p)

pub all_below : Refuses below.Post (257, _) 257
unfolding set_of pack weight bit digit
all_below x p = omega (arith, p)

pub meet_for_union : Refuses joining.Post (5, (3, _)) 1
unfolding union set_of pack weight bit digit
meet_for_union x p = omega (arith, p)

pub one_of_two : Refuses joining.Post (5, (3, _)) 5
unfolding union set_of pack weight bit digit
one_of_two x p = omega (arith, p)

pub apart_called_meeting : Refuses meeting.Post (5, (2, _)) true
unfolding meets any bit digit
apart_called_meeting x p = false≢true (sym p)

pub meeting_called_apart : Refuses meeting.Post (5, (6, _)) false
unfolding meets any bit digit
meeting_called_apart x p = false≢true p

-- ---- sets moved, where every state steps to 0: the set itself; nothing, for the last state

abbrev steps : List ℕ
steps = 1 ∷ 1 ∷ 1 ∷ 1 ∷ 1 ∷ 1 ∷ 1 ∷ 1 ∷ []

abbrev steps16 : List ℕ
steps16 = steps ++ steps

-- `moved` at u8 and at u16, whatever is known besides of the type and of its copies
module _ (κ : Lft) (L : Laws u8-field.row) (C : IsCopy u8-field.row) (D : Dict) (K : Ghosts ℕ) (E : Dict) where
  pub not_moved : Refuses (moving.Post u8-field.row L C u8.ghosts D K E) {k = (κ, (κ, _))} (lent steps, (2, _)) 2
  unfolding moved set_of pack moves_to any by_sets weight bit digit
  not_moved x p = omega (arith, p)

  pub last_not_moved : Refuses (moving.Post u8-field.row L C u8.ghosts D K E) {k = (κ, (κ, _))} (lent steps, (128, _)) 0
  unfolding moved set_of pack moves_to any by_sets weight bit digit
  last_not_moved x p = omega (arith, p)

module _ (κ : Lft) (L : Laws u16-field.row) (C : IsCopy u16-field.row) (D : Dict) (K : Ghosts ℕ) (E : Dict) where
  pub not_moved16 : Refuses (moving.Post u16-field.row L C u16.ghosts D K E) {k = (κ, (κ, _))} (lent steps16, (2, _)) 2
  unfolding moved set_of pack moves_to any by_sets weight bit digit
  not_moved16 x p = omega (arith, p)

  pub last_not_moved16 : Refuses (moving.Post u16-field.row L C u16.ghosts D K E) {k = (κ, (κ, _))} (lent steps16, (32768, _)) 0
  unfolding moved set_of pack moves_to any by_sets weight bit digit
  last_not_moved16 x p = omega (arith, p)

-- ---- pairs: 769 has the rows 1 and 3

-- the next row; the rows nine bits apart
pub next_row : Refuses row_of.Post (769, (0, _)) (row 8 769 1)
unfolding row digit
next_row x p = omega (arith, p)

pub nine_apart : Refuses row_of.Post (769, (1, _)) 1
unfolding row digit
nine_apart x p = omega (arith, p)

-- the pairs that end in 0 for those that start in it; all but the last of its row
pub columns_for_rows : Refuses rows.Post (1, _) 0x0101010101010101
unfolding rows_of pairs pack weight bit digit
columns_for_rows x p = omega (arith, p)

pub seven_columns : Refuses rows.Post (1, _) 127
unfolding rows_of pairs pack weight bit digit
seven_columns x p = omega (arith, p)

-- ---- fields: one for the other, and one with a bit too few or too many

abbrev stem : ℕ
stem = stem_entry 128 8 9 2048

pub letter_before_state : Refuses StemEntry.Post (128, (8, (9, (2048, _)))) (stem_entry 128 9 8 2048)
letter_before_state x p = omega (arith, p)

pub letter_too_low : Refuses StemEntry.Post (128, (8, (9, (2048, _)))) (128 + 256 * 8 + 2048 * 9 + 65536 * 2048)
letter_too_low x p = omega (arith, p)

pub state_for_target : Refuses StemTarget.Post (stem, _) (stem_state stem)
state_for_target x p = omega (arith, p)

pub target_of_seven_bits : Refuses StemTarget.Post (stem, _) (stem % 128)
target_of_seven_bits x p = omega (arith, p)

pub letter_for_state : Refuses StemState.Post (stem, _) (stem_letter stem)
letter_for_state x p = omega (arith, p)

pub state_of_three_bits : Refuses StemState.Post (stem, _) (stem / 256 % 8)
state_of_three_bits x p = omega (arith, p)

pub parent_for_letter : Refuses StemLetter.Post (stem, _) (stem / 65536 % 16)
parent_for_letter x p = omega (arith, p)

pub letter_of_three_bits : Refuses StemLetter.Post (stem, _) (stem / 4096 % 8)
letter_of_three_bits x p = omega (arith, p)

pub parent_of_eleven_bits : Refuses StemParent.Post (stem, _) (stem / 65536 % 2048)
parent_of_eleven_bits x p = omega (arith, p)

pub letter_in_parent : Refuses StemParent.Post (stem, _) (stem / 4096 % 4096)
letter_in_parent x p = omega (arith, p)

abbrev link : ℕ
link = period_link 8 9 65535

pub letter_before_link_state : Refuses PeriodLink.Post (8, (9, (65535, _))) (period_link 9 8 65535)
letter_before_link_state x p = omega (arith, p)

pub parent_too_low : Refuses PeriodLink.Post (8, (9, (65535, _))) (8 + 16 * 9 + 256 * 65535)
parent_too_low x p = omega (arith, p)

pub letter_for_link_state : Refuses LinkState.Post (link, _) (link_letter link)
letter_for_link_state x p = omega (arith, p)

pub link_state_of_three_bits : Refuses LinkState.Post (link, _) (link % 8)
link_state_of_three_bits x p = omega (arith, p)

pub state_for_link_letter : Refuses LinkLetter.Post (link, _) (link_state link)
state_for_link_letter x p = omega (arith, p)

pub link_letter_of_three_bits : Refuses LinkLetter.Post (link, _) (link / 16 % 8)
link_letter_of_three_bits x p = omega (arith, p)

pub link_parent_of_twelve_bits : Refuses LinkParent.Post (link, _) (link / 65536 % 4096)
link_parent_of_twelve_bits x p = omega (arith, p)

pub letter_in_link_parent : Refuses LinkParent.Post (link, _) (link / 16 % 65536)
letter_in_link_parent x p = omega (arith, p)
