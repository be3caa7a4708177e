-- The automaton that a good file spells out is within the limits and within the number of states that its head gives. Assumes nothing.
use mathlib.Core.Bool.{true, false≢true}
use mathlib.Core.List.{List}
use mathlib.Core.Path.{◌≡◌, subst⁻¹}
use Prim.Native.Nat.{ℕ, zero, suc, ◌<◌, ◌≤◌}
use native.Mathlib.Omega.{arith}
use Rattle.std.proofs.lemmas.Bool.Decides.{nat_tests}
use Rattle.bits.specs.Bits.{any}
use Rattle.bits.proofs.Quantifiers.{any_elim}
use Rattle.acceptance.specs.Contexts.{Small}
use Rattle.automata.specs.declared.Head.{Head}
use Rattle.std.specs.Prelude.{None, Ok}
use Rattle.records.specs.Spelled.{byte, count, kind_f, kind_t, is_record, among, started, start_in, named, states_in, spelled, accepting_in}
use Rattle.records.specs.Faults.{fault, head_of, judged}
use Rattle.records.proofs.Good.{Clean, clean_less, good_file}

-- ---- records that are there

module _ (s : List ℕ) where
  -- one of the first n records consists of these bytes
  pub record There (n kind a b c : ℕ) : Type 0 where
    pub at : ℕ
    pub before : at < n
    pub kind_is : byte s at 0 ≡ kind
    pub first_is : byte s at 1 ≡ a
    pub second_is : byte s at 2 ≡ b
    pub third_is : byte s at 3 ≡ c

  pub there : (n kind a b c : ℕ) → among s n kind a b c ≡ true → There n kind a b c
  unfolding among is_record
  there n kind a b c e =
      let (i, before, is) = any_elim (λ i. is_record s i kind a b c) n e in
      record {
        at = i;
        before = before;
        kind_is = grind (arith, nat_tests);
        first_is = grind (arith, nat_tests);
        second_is = grind (arith, nat_tests);
        third_is = grind (arith, nat_tests);
      }

  -- ---- the states that they name

  named_within : (n i : ℕ) → i < n → named s i ≤ states_in s n
  unfolding states_in
  named_within zero i h = absurd (omega arith)
  named_within (suc n) i h = let before = named_within n i in grind arith

  first_named : (i : ℕ) → byte s i 1 < named s i
  unfolding named
  first_named i = grind arith

  third_named : (i : ℕ) → byte s i 0 ≡ kind_t → byte s i 3 < named s i
  unfolding named
  third_named i k = rw k (omega arith)

  start_named : (n : ℕ) → started s n ≡ true → start_in s n < states_in s n
  unfolding started any start_in states_in
  start_named zero e = absurd (false≢true e)
  start_named (suc n) e = let before = start_named n in let here = first_named n in grind (arith, nat_tests)

-- ---- good records keep to the limits

module _ (states : ℕ) (s : List ℕ) where
  named_below : (i : ℕ) → fault states s i ≡ None → named s i ≤ states
  unfolding fault named
  named_below i good = grind (arith, nat_tests)

  states_below : (n : ℕ) → Clean states s n → states_in s n ≤ states
  unfolding states_in
  states_below zero clean = omega arith
  states_below (suc n) clean =
      let before = states_below n (clean_less states s n clean) in
      let here = named_below n (clean.good n (omega arith)) in
      omega arith

  letter_below : (i : ℕ) → fault states s i ≡ None → byte s i 0 ≡ kind_t → byte s i 2 < 16
  unfolding fault
  letter_below i good kind = grind (arith, nat_tests)

-- ---- the limits

pub record Limits (states : ℕ) (s : List ℕ) (h : Head) : Type 0 where
  pub states_within : h.states ≤ states
  pub start_within : h.start < h.states
  pub source_within : (p x q : ℕ) → (spelled s).step p x q ≡ true → p < h.states
  pub letter_within : (p x q : ℕ) → (spelled s).step p x q ≡ true → x < 16
  pub final_within : (q : ℕ) → (spelled s).final q ≡ true → q < h.states
  pub small : Small h.states (spelled s)

pub spelled_small : (states : ℕ) (s : List ℕ) {h : Head} → judged states s ≡ Ok h → Limits states s h
unfolding head_of spelled accepting_in
spelled_small states s {h} e =
    let file = good_file states s e in
    let n = count s in
    let below = states_below states s n file.clean in
    let final : (q : ℕ) → among s n kind_f q 0 0 ≡ true → q < states_in s n =
    λ q f. let w = there s n kind_f q 0 0 f in
    omega (arith, first_named s w.at, named_within s n w.at w.before, w.first_is) in
    subst⁻¹ (Limits states s) file.head_is
    (record {
      states_within = below;
      start_within = start_named s n file.begins;
      source_within = λ p x q f. let w = there s n kind_t p x q f in omega (arith, first_named s w.at, named_within s n w.at w.before, w.first_is);
      letter_within = λ p x q f. let w = there s n kind_t p x q f in omega (arith, letter_below states s w.at (file.clean.good w.at w.before) w.kind_is, w.second_is);
      final_within = final;
      small =
          record {
            start_small = start_named s n file.begins;
            step_small = λ p x q f. let w = there s n kind_t p x q f in omega (arith, third_named s w.at w.kind_is, named_within s n w.at w.before, w.third_is);
          };
    })
