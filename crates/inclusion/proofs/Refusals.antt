-- The refusals before the walk have the numbers 1 to 7: 0, 8 and 9 come of the walk alone. Assumes nothing.
use mathlib.Core.Bool.{Bool, true, false, ◌&&◌, ◌||◌, cond}
use mathlib.Core.List.{List}
use mathlib.Core.Path.{◌≡◌, refl}
use Prim.Native.Nat.{ℕ, zero, suc, ◌*◌, ◌%◌, ◌≤◌, ◌<◌}
use native.Mathlib.Omega.{arith}
use lib.Dec.{eqb, ltb}
use lib.ListN.{length}
use Rattle.std.specs.Prelude.{Option, Some, None, Result, Ok, Err}
use Rattle.automata.specs.declared.Head.{Head}
use Rattle.adding.specs.declared.reason.Reason.{Reason}
use Rattle.adding.specs.declared.reason.Reason.TheVariants.{BrokenLength, UnknownKind, ByteNotZero, PastLimit, ThereAlready, NoInitialState, TooLittleLent}
use Rattle.adding.specs.Reason.{number}
use Rattle.records.specs.declared.Fault.{Fault}
use Rattle.records.specs.declared.Refusal.{Refusal}
use Rattle.records.specs.Spelled.{byte, kind_i, kind_f, kind_t, count, started}
use Rattle.records.specs.Faults.{again, fault, first_fault, fault_at, head_of, judged}
use Rattle.loading.specs.Outset.{sizes_of, long_enough, outset_of}
use Rattle.search.specs.Ending.{Buffers}
use Rattle.inclusion.specs.Answers.{stops, start_by, start_of}

-- ---- a file

abbrev Below : ℕ → Reason → Type 0
Below n r = (1 ≤ number r) × (number r < n)

abbrev Low : Option Reason → Type 0
Low None = Unit {0}
Low (Some r) = Below 6 r

module _ (states : ℕ) (s : List ℕ) where
  fault_low : (i : ℕ) → Low (fault states s i)
  unfolding fault
  fault_low i =
      let twice : Low (cond (again s i) (Some ThereAlready) None) = at (again s i) (Some ThereAlready) None (omega arith, omega arith) tt in
      at (eqb (byte s i 0) kind_t) _ _
      (at (ltb (byte s i 1) states && (ltb (byte s i 2) 16 && ltb (byte s i 3) states)) _ (Some PastLimit) twice (omega arith, omega arith))
      (at (eqb (byte s i 0) kind_i || eqb (byte s i 0) kind_f) _ (Some UnknownKind)
      (at (eqb (byte s i 2) 0 && eqb (byte s i 3) 0) _ (Some ByteNotZero) (at (ltb (byte s i 1) states) _ (Some PastLimit) twice (omega arith, omega arith)) (omega arith, omega arith))
      (omega arith, omega arith))
    where
      at : (t : Bool) (m n : Option Reason) → Low m → Low n → Low (cond t m n)
      at true m n h l = h
      at false m n h l = l

  first_low : (k i : ℕ) {first : ℕ × Reason} → first_fault states s k i ≡ Some first → Below 6 first.1
  unfolding first_fault
  first_low zero i e = absurd cc
  first_low (suc k) i {first} e = at (first_low k (suc i)) (fault states s i) (fault_low i) e
    where
      at : (first_fault states s k (suc i) ≡ Some first → Below 6 first.1) → (o : Option Reason) → Low o → elim o [ None ↦ first_fault states s k (suc i) | Some reason ↦ Some (i, reason) ] ≡ Some first → Below 6 first.1
      at later None l e = later e
      at later (Some r) l e = let same : (i, r) ≡ first = cc in rw (← same) l

  file_number : {f : Fault} → judged states s ≡ Err f → Below 7 f.reason
  unfolding judged
  file_number {f} e = at (eqb (length s % 4) 0) (first_fault states s (count s) 0) refl (started s (count s)) e
    where
      at : (a : Bool) (o : Option (ℕ × Reason)) → first_fault states s (count s) 0 ≡ o → (c : Bool)
          → cond {A = Result Head Fault} a (elim o [
            | None ↦ cond c (Ok (head_of s)) (Err (fault_at NoInitialState (length s)))
            | Some first ↦ Err (fault_at first.1 (4 * first.0))
          ]) (Err (fault_at BrokenLength (4 * count s))) ≡ Err f
          → Below 7 f.reason
      at true (Some first) eo c e = let same : first.1 ≡ f.reason = cc in let low = first_low (count s) 0 eo in rw (← same) (low.0, omega arith)
      at true None eo true e = absurd cc
      at true None eo false e = let same : NoInitialState ≡ f.reason = cc in rw (← same) (omega arith, omega arith)
      at false o eo c e = let same : BrokenLength ≡ f.reason = cc in rw (← same) (omega arith, omega arith)

-- ---- before the walk

pub stop_number : (model rule : List ℕ) (S P : ℕ) (lent : Buffers) {r : Refusal} → start_of model rule S P lent ≡ stops r → (1 ≤ number r.reason) × (number r.reason ≤ 7)
unfolding start_of outset_of
stop_number model rule S P lent {r} e = at (judged 16 model) refl (judged 8 rule) refl (long_enough S P (sizes_of lent)) e
  where
    at : (a : Result Head Fault) → judged 16 model ≡ a → (b : Result Head Fault) → judged 8 rule ≡ b → (c : Bool)
        → start_by (outset_of a b c) ≡ stops r → (1 ≤ number r.reason) × (number r.reason ≤ 7)
    at (Ok a) ea (Ok b) eb true e = absurd cc
    at (Ok a) ea (Ok b) eb false e = let same : TooLittleLent ≡ r.reason = cc in rw (← same) (omega arith, omega arith)
    at (Ok a) ea (Err f) eb c e = let same : f.reason ≡ r.reason = cc in let file = file_number 8 rule eb in rw (← same) (file.0, omega arith)
    at (Err f) ea b eb c e = let same : f.reason ≡ r.reason = cc in let file = file_number 16 model ea in rw (← same) (file.0, omega arith)
