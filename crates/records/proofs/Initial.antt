-- A good file has exactly one I record, and it names the initial state. Assumes nothing.
use mathlib.Core.List.{List}
use mathlib.Core.Path.{◌≡◌}
use Prim.Native.Nat.{ℕ, zero, suc, ◌<◌}
use native.Mathlib.Omega.{arith}
use Rattle.std.proofs.lemmas.Bool.Decides.{nat_tests}
use lib.Dec.{eqb}
use borrow.Author.Tests.{eqb-true, eq-eqb}
use Rattle.bits.proofs.Quantifiers.{any_intro, any_elim}
use Rattle.automata.specs.declared.Head.{Head}
use Rattle.std.specs.Prelude.{None, Ok}
use Rattle.records.specs.Spelled.{byte, count, kind_i, started, start_in, spelled}
use Rattle.records.specs.Faults.{again, fault, judged}
use Rattle.records.proofs.Good.{Clean, clean_less, good_file}

-- the one I record
pub record OneInitial (s : List ℕ) : Type 0 where
  pub at : ℕ
  pub within : at < count s
  pub is_initial : byte s at 0 ≡ kind_i
  pub named : (spelled s).start ≡ byte s at 1
  pub alone : (i : ℕ) → i < count s → byte s i 0 ≡ kind_i → i ≡ at

module _ (states : ℕ) (s : List ℕ) where
  -- no I before a good one
  none_before : (i j : ℕ) → fault states s i ≡ None → byte s i 0 ≡ kind_i → j < i → byte s j 0 ≡ kind_i → ⊥
  unfolding fault again started
  none_before i j good k l m =
      let there = any_intro (λ n. eqb (byte s n 0) kind_i) i j l (eq-eqb (byte s j 0) kind_i m) in
      absurd (grind (arith, nat_tests))

  start_at : (n i : ℕ) → Clean states s n → i < n → byte s i 0 ≡ kind_i → start_in s n ≡ byte s i 1
  unfolding start_in
  start_at zero i clean h k = absurd (omega arith)
  start_at (suc n) i clean h k =
      let later = start_at n i (clean_less states s n clean) in
      let none = none_before n i (clean.good n (omega arith)) in
      grind (arith, nat_tests)

  pub spelled_start : {h : Head} → judged states s ≡ Ok h → OneInitial s
  unfolding started spelled
  spelled_start e =
      let file = good_file states s e in
      let w = any_elim (λ i. eqb (byte s i 0) kind_i) (count s) file.begins in
      let k = eqb-true (byte s w.0 0) kind_i w.2 in
      record {
        at = w.0;
        within = w.1;
        is_initial = k;
        named = start_at (count s) w.0 file.clean w.1 k;
        alone = λ i h m.
            let before = none_before w.0 i (file.clean.good w.0 w.1) k in
            let after = none_before i w.0 (file.clean.good i h) m in
            grind arith;
      }
