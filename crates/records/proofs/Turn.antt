-- One turn of reading: what the step and the table that come of record i are, by the refusal that it meets. Assumes nothing.
use mathlib.Core.Bool.{cond}
use mathlib.Core.List.{List}
use mathlib.Core.Path.{◌≡◌}
use Prim.Native.Nat.{ℕ, suc, ◌≤◌}
use native.Mathlib.Omega.{arith}
use Rattle.std.proofs.lemmas.Bool.Decides.{nat_tests}
use Rattle.bits.specs.Bits.{any}
use Rattle.adding.specs.declared.Draft.{Draft}
use Rattle.adding.specs.declared.reason.Reason.{Reason}
use Rattle.std.specs.Prelude.{Option, Some, None, Result, Ok, Err}
use Rattle.records.specs.Spelled.{started, start_in, named, states_in, table_of, accepting_in}
use Rattle.records.specs.Faults.{again, fault}
use Rattle.adding.specs.Steps.{record_at, record_of, lone_state, initial_step, accepting_step, transition_step, step_by, transition_table, table_by}
use Rattle.records.proofs.Added.{accepting_bit, table_bit, accepting_other, table_other, accepting_more, table_more}

-- the draft of the first n records
unfoldable pub draft_in : List ℕ → ℕ → Draft
draft_in s n = record { start = cond (started s n) (Some (start_in s n)) None; accepting = accepting_in s n; states = states_in s n }

-- ---- what comes of a record, by the refusal that it meets

abbrev pub led : Option Reason → Draft → Result Draft Reason
led None next = Ok next
led (Some reason) next = Err reason

abbrev pub kept : {A : Type 0} → Option Reason → A → A → A
kept None next now = next
kept (Some reason) next now = now

-- ---- a turn

module _ (states : ℕ) (s : List ℕ) (i : ℕ) where
  -- a refusal that the record meets by itself is the one that it meets in the file
  pub refused : {reason : Reason} → record_at states s i ≡ Err reason → fault states s i ≡ Some reason
  unfolding record_of lone_state fault
  refused e = grind (arith, nat_tests)

module _ (states : ℕ) (s : List ℕ) (i : ℕ) (small : states ≤ 16) where
  pub turn_step : step_by (table_of s i) (draft_in s i) (record_at states s i) ≡ led (fault states s i) (draft_in s (suc i))
  unfolding record_of lone_state fault again initial_step accepting_step transition_step draft_in started any start_in states_in named
  turn_step = grind (arith, nat_tests, accepting_bit, table_bit, accepting_other, accepting_more)

  pub turn_table : table_by (table_of s i) (record_at states s i) ≡ kept (fault states s i) (table_of s (suc i)) (table_of s i)
  unfolding record_of lone_state fault again transition_table
  turn_table = grind (arith, nat_tests, table_bit, table_other, table_more)
