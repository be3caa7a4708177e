-- Reading a file record by record gives the answer that it should have, and the table of the records before the first fault. Assumes nothing.
use mathlib.Core.List.{List}
use mathlib.Core.Path.{◌≡◌, refl}
use Prim.Native.Nat.{ℕ, suc, ◌-◌, ◌<◌, ◌≤◌}
use native.Mathlib.Omega.{arith}
use Rattle.std.specs.Prelude.{replicate, Some, None}
use Rattle.bits.specs.Bits.{pack, weight, set_of, any, values}
use Rattle.adding.specs.declared.Draft.{Draft}
use Rattle.records.specs.Spelled.{count, among, accepting_in, states_in, started, table_of}
use Rattle.records.specs.Faults.{fault, first_fault}
use Rattle.records.proofs.Turn.{draft_in, turn_step, turn_table}

-- before the first record
pub begun_table : (s : List ℕ) → table_of s 0 ≡ replicate 16 (replicate 16 0)
unfolding table_of values set_of pack weight among any
begun_table s = refl

pub begun_draft : (s : List ℕ) → draft_in s 0 ≡ record { start = None; accepting = 0; states = 0 }
unfolding draft_in among started any accepting_in states_in set_of pack weight
begun_draft s = refl

module _ (states : ℕ) (s : List ℕ) where
  -- what holds before record i is read
  pub record Reading (table : List (List ℕ)) (draft : Draft) (i : ℕ) : Type 0 where
    pub rest : first_fault states s (count s - i) i ≡ first_fault states s (count s) 0
    pub table_is : table ≡ table_of s i
    pub draft_is : draft ≡ draft_in s i

  -- the first fault from record i on
  pub first_more : (i : ℕ) → i < count s
      → first_fault states s (count s - i) i ≡ elim (fault states s i) [ None ↦ first_fault states s (count s - suc i) (suc i) | Some reason ↦ Some (i, reason) ]
  unfolding first_fault
  first_more i more = let left : count s - i ≡ suc (count s - suc i) = omega arith in rw left

  pub first_end : (i : ℕ) → count s ≤ i → first_fault states s (count s - i) i ≡ None
  unfolding first_fault
  first_end i end = let left : count s - i ≡ 0 = omega arith in rw left

-- what a turn and the end need
pub ruleset reading = (begun_table, begun_draft, turn_step, turn_table, first_more, first_end)
