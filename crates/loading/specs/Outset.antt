-- What comes before the walk (document 01, "Numbers the tool answers with"): what the two files and what is lent lead to, and what loading gives. Assumes nothing.
use Rattle.std.specs.Prelude.{Bool, ◌&&◌, cond, List, ◌≡◌, ℕ, ◌*◌, ltb, leb, length, Result, Ok, Err}
use Rattle.automata.specs.declared.Head.{Head}
use Rattle.adding.specs.declared.reason.Reason.TheVariants.{TooLittleLent}
use Rattle.records.specs.declared.Fault.{Fault}
use Rattle.records.specs.declared.Refusal.{Refusal}
use Rattle.records.specs.Spelled.{table_of}
use Rattle.records.specs.Faults.{good_records, judged, refusal}
use Rattle.records.specs.Narrow.{narrow}
use Rattle.search.specs.Ending.{Buffers}
use Rattle.loading.specs.declared.Sizes.{Sizes}

-- how long the six buffers are
abbrev pub sizes_of : Buffers → Sizes
sizes_of lent = record {
  smallest = length lent.smallest;
  largest = length lent.largest;
  links = length lent.links;
  contexts = length lent.contexts;
  stem = length lent.stem;
  period = length lent.period;
}

-- S and P are in range, and the lent buffers long enough for them
unfoldable pub long_enough : ℕ → ℕ → Sizes → Bool
long_enough S P n =
    (ltb 0 S && leb S 4096) && ((ltb 0 P && leb P 65535)
    && ((leb S n.smallest && leb S n.largest)
    && ((leb P n.links && leb (2 * P) n.contexts)
    && (leb S n.stem && leb P n.period))))

-- what comes before the walk, from what reading the files answers and from whether enough is lent: 1 to 6 of the model, 1 to 6 of the rule, 7, and else the heads
unfoldable pub outset_of : Result Head Fault → Result Head Fault → Bool → Result (Head × Head) Refusal
outset_of (Err fault) rule enough = Err (refusal fault.reason 0 fault.place)
outset_of (Ok a) (Err fault) enough = Err (refusal fault.reason 1 fault.place)
outset_of (Ok a) (Ok b) enough = cond enough (Ok (a, b)) (Err (refusal TooLittleLent 0 0))

-- both files are read, and judged with whether enough is lent; the tables hold what was read
pub record Loads (model rule : List ℕ) (enough : Bool) (r : Result (Head × Head) Refusal) (model_table rule_table : List (List ℕ)) : Type 0 where
  pub outset : r ≡ outset_of (judged 16 model) (judged 8 rule) enough
  pub model_read : model_table ≡ table_of model (good_records 16 model)
  pub rule_read : rule_table ≡ narrow (table_of rule (good_records 8 rule))
