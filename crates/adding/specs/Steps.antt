-- What one record says, and what it adds to what the records before it said. Assumes nothing.
use Rattle.std.specs.Prelude.{◌&&◌, cond, List, [], ℕ, suc, ◌^◌, ◌<◌, max, eqb, ltb, get_or, set, Some, is_some, Result, Ok, Err}
use Rattle.std.specs.Result.{result_map_both}
use Rattle.bits.specs.Bits.{bit}
use Rattle.bits.specs.Sets.{union}
use Rattle.automata.specs.Loaded.{cell}
use Rattle.adding.specs.declared.Draft.{Draft}
use Rattle.adding.specs.declared.Edge.{Edge}
use Rattle.adding.specs.declared.reason.Reason.{Reason}
use Rattle.adding.specs.declared.reason.Reason.TheVariants.{UnknownKind, ByteNotZero, PastLimit, ThereAlready}
use Rattle.adding.specs.declared.Record.{Record}
use Rattle.adding.specs.declared.Record.TheVariants.{Initial, Accepting, Transition}
use Rattle.adding.specs.Bytes.{byte, kind_i, kind_f, kind_t}

-- the state that an I or an F names: the two bytes that must be 0 come before its limit
unfoldable pub lone_state : ℕ → ℕ → ℕ → ℕ → Result ℕ Reason
lone_state states q y z = cond (eqb y 0 && eqb z 0) (cond (ltb q states) (Ok q) (Err PastLimit)) (Err ByteNotZero)

-- what four bytes say, or the refusal that they meet by themselves
unfoldable pub record_of : ℕ → ℕ → ℕ → ℕ → ℕ → Result Record Reason
record_of states kind a b c =
    cond (eqb kind kind_t)
    (cond (ltb a states && (ltb b 16 && ltb c states)) (Ok (Transition (record { source = a; letter = b; target = c }))) (Err PastLimit))
    (cond (eqb kind kind_i) (result_map_both Initial (λ e. e) (lone_state states a b c))
    (cond (eqb kind kind_f) (result_map_both Accepting (λ e. e) (lone_state states a b c))
    (Err UnknownKind)))

abbrev pub record_at : ℕ → List ℕ → ℕ → Result Record Reason
record_at states s i = record_of states (byte s i 0) (byte s i 1) (byte s i 2) (byte s i 3)

-- its states and its letter are below 16
abbrev pub Sized : Record → Type 0
Sized (Initial q) = q < 16
Sized (Accepting q) = q < 16
Sized (Transition e) = (e.source < 16) × (e.letter < 16) × (e.target < 16)

-- the draft that comes of one more record, unless the record was there before; its start is None until one is named
unfoldable pub initial_step : Draft → ℕ → Result Draft Reason
initial_step d q =
    cond (is_some d.start) (Err ThereAlready) (Ok (record { start = Some q; accepting = d.accepting; states = max d.states (suc q) }))

unfoldable pub accepting_step : Draft → ℕ → Result Draft Reason
accepting_step d q =
    cond (bit d.accepting q) (Err ThereAlready)
    (Ok (record { start = d.start; accepting = union 16 d.accepting (2 ^ q); states = max d.states (suc q) }))

unfoldable pub transition_step : List (List ℕ) → Draft → Edge → Result Draft Reason
transition_step t d e =
    cond (bit (cell t e.letter e.source) e.target) (Err ThereAlready)
    (Ok (record { start = d.start; accepting = d.accepting; states = max d.states (suc (max e.source e.target)) }))

abbrev pub step_by : List (List ℕ) → Draft → Result Record Reason → Result Draft Reason
step_by t d (Ok (Initial q)) = initial_step d q
step_by t d (Ok (Accepting q)) = accepting_step d q
step_by t d (Ok (Transition e)) = transition_step t d e
step_by t d (Err reason) = Err reason

-- the table with a transition: its target is a member of its cell
unfoldable pub cell_with : List (List ℕ) → Edge → List (List ℕ)
cell_with t e =
    set t e.letter (set (get_or t e.letter []) e.source (union 16 (cell t e.letter e.source) (2 ^ e.target)))

-- the table that comes of one more record; one that was there before leaves it as it is
unfoldable pub transition_table : List (List ℕ) → Edge → List (List ℕ)
transition_table t e = cond (bit (cell t e.letter e.source) e.target) t (cell_with t e)

abbrev pub table_by : List (List ℕ) → Result Record Reason → List (List ℕ)
table_by t (Ok (Initial q)) = t
table_by t (Ok (Accepting q)) = t
table_by t (Ok (Transition e)) = transition_table t e
table_by t (Err reason) = t
