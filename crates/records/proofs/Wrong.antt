-- Wrong answers that the contracts of `refusal_of`, `narrowed` and `bad_record` rule out. Assumes nothing.
use mathlib.Core.Bool.{true}
use mathlib.Core.List.{List}
use mathlib.Core.Path.{◌≡◌}
use Prim.Native.Nat.{ℕ, suc, ◌+◌, ◌%◌, ◌<◌}
use native.Mathlib.Omega.{arith}
use contract.Lifetimes.{Lfts}
use Rattle.bits.proofs.Refuses.{Refuses, lent}
use Rattle.automata.specs.declared.Head.{Head}
use Rattle.automata.specs.Loaded.{cell}
use Rattle.std.specs.Prelude.{Ok, Err}
use Rattle.adding.specs.declared.reason.Reason.TheVariants.{NoInitialState}
use Rattle.records.specs.declared.Fault.{Fault}
use Rattle.records.specs.Faults.{refusal}
use Rattle.records.specs.Narrow.{narrow_cell, narrow_row, narrow}
use Rattle.records.specs.BadRecord.{file_of, in_file, bad_file, bad_start}
use Rattle.records.proofs.Table.{cell_at}
use Rattle.records.proofs.refusal_of.Reads as RefusalOf
use Rattle.records.proofs.narrowed.Reads as narrowed

-- ---- `refusal_of`

-- the rule's refusal told as the model's
pub other_file : (fault : Fault) → Refuses RefusalOf.Post (1, (Err fault, _)) (Err (refusal fault.reason 0 fault.place))
other_file fault x p = grind arith

-- the place of the next record
pub next_record : (which : ℕ) (fault : Fault) → Refuses RefusalOf.Post (which, (Err fault, _)) (Err (refusal fault.reason which (4 + fault.place)))
next_record which fault x p = grind arith

-- a good file with a refusal
pub good_refused : (which : ℕ) (head : Head) → Refuses RefusalOf.Post (which, (Ok head, _)) (Err (refusal NoInitialState 0 0))
good_refused which head x p = cc

-- ---- `narrowed`, at the row of letter x

module _ (κs : Lfts 1) (t : List (List ℕ)) {x : ℕ} (letter : x < 16) where
  narrow_at : (p : ℕ) → p < 8 → cell (narrow t) x p ≡ cell t x p % 256
  unfolding narrow narrow_row narrow_cell
  narrow_at p l = cell_at 16 8 (narrow_cell t) x p letter l

  -- seven states: nothing leads on from the last one
  pub seven_states : (r : List (List ℕ)) → cell t x 7 ≡ 1 → cell r x 7 ≡ 0 → Refuses narrowed.Post {k = κs} (lent t, _) r
  seven_states r one none y p = let last = narrow_at 7 (omega arith) in grind arith

  -- the other half of the row
  pub upper_half : (r : List (List ℕ)) → cell t x 0 ≡ 1 → cell t x 8 ≡ 0 → cell r x 0 ≡ cell t x 8 → Refuses narrowed.Post {k = κs} (lent t, _) r
  upper_half r one none half y p = let first = narrow_at 0 (omega arith) in grind arith

-- ---- `bad_record`, by the offset and the block of the part that it gives

-- one byte late
pub one_late : (which place : ℕ) (a b : List ℕ) {offset : ℕ} (at_a at_b : ℕ) → in_file which place a b ≡ true
    → offset ≡ file_of (bad_file which place a b) at_a at_b + bad_start which place a b → offset ≡ file_of which at_a at_b + suc place → ⊥
unfolding bad_file bad_start
one_late which place a b at_a at_b here is late = grind arith

-- a copy elsewhere
pub copied : {A : Type 0} (which : ℕ) {block a b : A} → block ≡ file_of which a b → (block ≡ a → ⊥) → (block ≡ b → ⊥) → ⊥
copied which is not_a not_b = grind arith
