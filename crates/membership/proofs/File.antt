-- What reading the file leads to. Assumes nothing.
use mathlib.Core.Bool.{Bool}
use mathlib.Core.List.{List}
use mathlib.Core.Path.{◌≡◌, sym, ap, ◌∙◌}
use Prim.Native.Nat.{ℕ, ◌<◌}
use native.Mathlib.Omega.{arith}
use Rattle.std.specs.Prelude.{Result, Ok, Err}
use Rattle.acceptance.specs.Lasso.{Word, Aut}
use Rattle.automata.specs.declared.Head.{Head}
use Rattle.automata.specs.Loaded.{aut}
use Rattle.records.specs.declared.Fault.{Fault}
use Rattle.records.specs.declared.Refusal.{Refusal}
use Rattle.records.specs.Spelled.{table_of}
use Rattle.records.specs.Faults.{good_records, judged, refusal_of}
use Rattle.records.proofs.Limits.{spelled_small}
use Rattle.records.proofs.Loaded.{loaded_model}
use Rattle.membership.specs.Test.{tested_on, tested}
use Rattle.membership.specs.Meaning.{TestRight}
use Rattle.membership.proofs.Right.{test_right}

head_of_file : (which : ℕ) (f : Result Head Fault) {head : Head} → Ok head ≡ refusal_of which f → f ≡ Ok head
head_of_file which (Ok h) e = cc
head_of_file which (Err fault) e = cc

module _ (records : List ℕ) {f : Result Head Fault} (same : f ≡ judged 16 records) where
  module _ {head : Head} (file : Ok head ≡ refusal_of 0 f) where
    good : judged 16 records ≡ Ok head
    good = sym same ∙ head_of_file 0 f file

    pub start_small : head.start < 16
    start_small = let limits = spelled_small 16 records good in omega arith

    -- the loaded automaton is the one that the records spell out
    pub good_file : {u v : Word} {table : List (List ℕ)} {r : Result Bool Refusal} → table ≡ table_of records (good_records 16 records)
        → r ≡ tested_on (aut (record { table = table; head = head })) u v → TestRight records u v r
    unfolding tested
    good_file {u} {v} t answer = test_right (answer ∙ rw t (ap (λ (A : Aut). tested_on A u v) (loaded_model records good) ∙ rw good))

  pub bad_file_lem : {r : Refusal} {u v : Word} → Err r ≡ refusal_of 0 f → TestRight records u v (Err r)
  unfolding tested
  bad_file_lem e = test_right (rw (← same) (rw (← e)))
