-- A good file: every record has been found good, one of them is an I, and the head is that of the whole file. Assumes nothing.
use mathlib.Core.Bool.{true}
use mathlib.Core.List.{List}
use mathlib.Core.Path.{◌≡◌}
use Prim.Native.Nat.{ℕ, zero, suc, ◌+◌, ◌<◌, ◌≤◌}
use native.Mathlib.Omega.{arith}
use Rattle.std.proofs.lemmas.Bool.Decides.{nat_tests}
use Rattle.std.specs.Prelude.{None, Ok}
use Rattle.automata.specs.declared.Head.{Head}
use Rattle.records.specs.Spelled.{count, started}
use Rattle.records.specs.Faults.{fault, first_fault, good_records, head_of, judged}

module _ (states : ℕ) (s : List ℕ) where
  -- the first n records are good
  pub record Clean (n : ℕ) : Type 0 where
    pub good : (i : ℕ) → i < n → fault states s i ≡ None

  pub clean_less : (n : ℕ) → Clean (suc n) → Clean n
  clean_less n clean = record { good = λ i h. clean.good i (omega arith) }

  -- where no fault is found, each record is good
  first_none : (k i j : ℕ) → first_fault states s k i ≡ None → i ≤ j → j < i + k → fault states s j ≡ None
  unfolding first_fault
  first_none zero i j h l m = absurd (omega arith)
  first_none (suc k) i j h l m = let later = first_none k (suc i) j in grind arith

  pub record GoodFile (h : Head) : Type 0 where
    pub whole : good_records states s ≡ count s
    pub clean : Clean (count s)
    pub begins : started s (count s) ≡ true
    pub head_is : h ≡ head_of s

  pub good_file : {h : Head} → judged states s ≡ Ok h → GoodFile h
  unfolding judged good_records
  good_file {h} e =
      let none : first_fault states s (count s) 0 ≡ None = grind (arith, nat_tests) in
      record {
        whole = grind (arith, nat_tests);
        clean = record { good = λ j l. first_none (count s) 0 j none (omega arith) (omega arith) };
        begins = grind (arith, nat_tests);
        head_is = grind (arith, nat_tests);
      }
