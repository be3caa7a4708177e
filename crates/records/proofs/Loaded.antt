-- The table and the head of a good file stand for the automaton that its bytes spell out. Assumes nothing.
use mathlib.Core.Bool.{false}
use mathlib.Core.List.{List}
use mathlib.Core.Path.{◌≡◌, ap, ◌∙◌}
use Prim.Native.Nat.{ℕ, ◌^◌, ◌<◌, ◌≤◌}
use native.Mathlib.Nat.{mod-lt}
use native.Mathlib.Omega.{arith}
use lib.Dec.{lit<, lit≤}
use Rattle.bits.specs.Bits.{bit}
use Rattle.bits.proofs.Bits.{bit_above, bit_mod, bit_set_of, set_of_lt}
use Rattle.bits.proofs.Truth.{bool_same}
use Rattle.automata.specs.declared.Head.{Head}
use Rattle.automata.specs.Loaded.{cell, aut_of}
use Rattle.std.specs.Prelude.{Ok}
use Rattle.records.specs.Spelled.{count, kind_f, kind_t, among, spelled, table_of, accepting_in}
use Rattle.records.specs.Faults.{good_records, head_of, judged}
use Rattle.records.specs.Narrow.{narrow_cell, narrow_row, narrow}
use Rattle.records.proofs.Table.{table, cell_at, member_at}
use Rattle.records.proofs.Added.{cell_in, accepting_bit, table_bit}
use Rattle.records.proofs.Good.{good_file}
use Rattle.records.proofs.Limits.{Limits, spelled_small}

-- a table with n sets to a row, of an automaton of n states: cell by cell it has the T records
module _ (n : ℕ) (few : n ≤ 16) (s : List ℕ) {h : Head} (good : judged n s ≡ Ok h)
    (f : ℕ → ℕ → ℕ) (fits : (x p : ℕ) → f x p < 2 ^ n)
    (same : (x p q : ℕ) → x < 16 → p < n → q < n → bit (f x p) q ≡ among s (count s) kind_t p x q) where
  limits : Limits n s h
  limits = spelled_small n s good

  head_is : h ≡ head_of s
  head_is = (good_file n s good).head_is

  cell_same : (x p q : ℕ) → x < 16 → p < n → q < n → bit (cell (table 16 n f) x p) q ≡ among s (count s) kind_t p x q
  cell_same x p q l k m = ap (λ (c : ℕ). bit c q) (cell_at 16 n f x p l k) ∙ same x p q l k m

  step_same : (p x q : ℕ) → bit (cell (table 16 n f) x p) q ≡ among s (count s) kind_t p x q
  unfolding spelled
  step_same p x q =
      let inside = member_at 16 n f n fits x p q in
      let same = cell_same x p q in
      let source = limits.source_within p x q in
      let letter = limits.letter_within p x q in
      let target = limits.small.step_small p x q in
      let within = limits.states_within in
      bool_same (bit (cell (table 16 n f) x p) q) (among s (count s) kind_t p x q) (λ e. grind arith) (λ e. grind arith)

  final_same : (q : ℕ) → bit h.accepting q ≡ among s (count s) kind_f q 0 0
  unfolding spelled head_of accepting_in
  final_same q =
      let within = limits.states_within in
      let final = limits.final_within q in
      let below = accepting_bit s (count s) q in
      let above = bit_above (accepting_in s (count s)) 16 q (set_of_lt (λ q. among s (count s) kind_f q 0 0) 16) in
      let is : h.accepting ≡ accepting_in s (count s) = ap (λ (g : Head). g.accepting) head_is in
      grind arith

  loaded : aut_of (cell (table 16 n f)) h ≡ spelled s
  unfolding aut_of spelled head_of
  loaded = λ i. record {
    start = (head_is i).start;
    step = λ p x q. step_same p x q i;
    final = λ q. final_same q i;
    mark = λ p x q. false;
  }

module _ (s : List ℕ) where
  pub loaded_model : {h : Head} → judged 16 s ≡ Ok h → aut_of (cell (table_of s (good_records 16 s))) h ≡ spelled s
  unfolding table_of
  loaded_model good =
      rw (good_file 16 s good).whole
      (loaded 16 (lit≤ tt) s good (cell_in s (count s)) (λ x p. set_of_lt (λ q. among s (count s) kind_t p x q) 16) (λ x p q l k m. bit_set_of (λ q. among s (count s) kind_t p x q) 16 q m))

  pub loaded_rule : {h : Head} → judged 8 s ≡ Ok h → aut_of (cell (narrow (table_of s (good_records 8 s)))) h ≡ spelled s
  unfolding narrow narrow_row narrow_cell
  loaded_rule good =
      let read = table_of s (count s) in
      rw (good_file 8 s good).whole
      (loaded 8 (lit≤ tt) s good (narrow_cell read) (λ x p. mod-lt (cell read x p) (lit< tt))
      (λ x p q l k m. bit_mod (cell read x p) 8 q m
      ∙ table_bit s (count s) x p q l (omega arith) (omega arith)))
