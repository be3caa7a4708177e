-- The entry point from the judgement on: where it stops, and where it makes the walk of the two loaded automata, which is that of the files.
-- Assumes nothing.
use mathlib.Core.Bool.{Bool}
use mathlib.Core.List.{List}
use mathlib.Core.Path.{◌≡◌, sym, ap}
use Prim.Native.Nat.{ℕ}
use Rattle.automata.specs.declared.Head.{Head}
use Rattle.automata.specs.Loaded.{cell, aut_of}
use Rattle.records.specs.declared.Refusal.{Refusal}
use Rattle.records.specs.Spelled.{spelled}
use Rattle.records.specs.Faults.{judged}
use Rattle.records.proofs.Loaded.{loaded_model, loaded_rule}
use Rattle.std.specs.Prelude.{Result, Ok, Err}
use Rattle.loading.specs.Outset.{sizes_of, long_enough, Loads}
use Rattle.loading.proofs.Judged.{enough}
use Rattle.search.specs.declared.Ending.{Ending}
use Rattle.walk.specs.Walk.{walk}
use Rattle.search.specs.Ending.{Buffers}
use Rattle.search.specs.Contract.{Prepared, Concluded}
use Rattle.inclusion.specs.declared.Answer.{Answer}
use Rattle.inclusion.specs.declared.Answer.TheVariants as says
use Rattle.inclusion.specs.Answers.{none_counted, walks, stops, start_by, start_of, answer_to, decided, left}
use Rattle.inclusion.specs.Decided.{Decided}
use Rattle.inclusion.proofs.Started.{Ready, heads, model_bounded, rule_small}
use Rattle.inclusion.proofs.Demands.{demands}

-- the tables with the heads stand for the automata that the files spell out
module _ {model rule : List ℕ} {lends : Bool} {o : Result (Head × Head) Refusal} {model-table rule-table : List (List ℕ)} (loads : Loads model rule lends o model-table rule-table) {h : Head} where
  model_loaded : judged 16 model ≡ Ok h → aut_of (cell model-table) h ≡ spelled model
  model_loaded good = rw loads.model_read (loaded_model model good)

  rule_loaded : judged 8 rule ≡ Ok h → aut_of (cell rule-table) h ≡ spelled rule
  rule_loaded good = rw loads.rule_read (loaded_rule rule good)

module _ {model rule : List ℕ} {S P : ℕ} {lent : Buffers} {model-table rule-table : List (List ℕ)} where
  -- ---- it stops

  pub stopped_right : {refusal : Refusal} → Loads model rule (long_enough S P (sizes_of lent)) (Err refusal) model-table rule-table
      → Decided model rule S P lent (says.Refused refusal none_counted) lent
  unfolding start_of decided left
  stopped_right loads =
      let s : start_of model rule S P lent ≡ stops _ = ap start_by (sym loads.outset) in
      demands model rule S P lent (rw (s, decided)) (rw (s, left))

  -- ---- it goes on

  module _ {a b : Head} (loads : Loads model rule (long_enough S P (sizes_of lent)) (Ok (a, b)) model-table rule-table) where
    files : Ready model rule S P lent a b
    files = heads (sym loads.outset)

    -- what the walk asks for
    pub prepared : Prepared (aut_of (cell model-table) a) (aut_of (cell rule-table) b) S P lent
    prepared = record {
      enough = enough S P lent files.lends;
      bounded = rw (model_loaded loads files.model_good) (model_bounded files);
      small = rw (rule_loaded loads files.rule_good) (rule_small files);
    }

    -- what it leaves is the answer's, and the buffers'
    pub walked_right : {r : Answer} {ending : Ending} {new : Buffers} → Concluded (walk (aut_of (cell model-table) a) (aut_of (cell rule-table) b) S P) P lent new ending
        → r ≡ answer_to S P ending → Decided model rule S P lent r new
    unfolding start_of decided left
    walked_right walked answer =
        let s : start_of model rule S P lent ≡ walks = ap start_by (sym loads.outset) in
        let walked = rw (model_loaded loads files.model_good, rule_loaded loads files.rule_good) at walked in
        demands model rule S P lent (rw (answer, walked.answer, s, decided)) (rw (walked.left, s, left))
