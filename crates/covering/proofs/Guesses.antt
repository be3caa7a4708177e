-- Guesses: how many there are, and what a right one says. Assumes nothing.
use mathlib.Core.Path.{◌≡◌, sym, ap, ◌∙◌, subst}
use mathlib.Core.Bool.{true, ◌&&◌}
use mathlib.Core.List.{List}
use Prim.Native.Nat.{ℕ, ◌+◌, ◌-◌, ◌*◌, ◌/◌, ◌%◌, ◌^◌, ◌≤◌, ◌<◌}
use native.Mathlib.Nat.{lt_of_le_of_lt, add-le-add, mul_comm, mul-le-mul_right, mul-lt-mul_of_pos_right, div-lt_iff_lt-mul}
use native.Mathlib.Omega.{arith}
use borrow.Author.Tests.{lt-ltb, le-leb, ltb-true, leb-true, eqb-true}
use lib.Bits.{bit_and, bit_or, bit_xor}
use lib.Dec.{eqb, ltb, leb}
use lib.ListN.{get_or}
use Rattle.bits.specs.Fields.{link_state}
use Rattle.bits.proofs.Truth.{and_left, and_right}
use Rattle.acceptance.specs.Contexts.{Context}
use Rattle.growth.specs.Grow.{covered}
use Rattle.growth.proofs.Entries.{entry, at_get_d}
use Rattle.growth.proofs.Covered.{covered_by}
use Rattle.covering.specs.Entries.{Period, context_in, entry_in, held}
use Rattle.covering.specs.Masks.{lacking, apart, covers, guessed}
use Rattle.covering.proofs.Entries.{held_length, held_at}
use Rattle.covering.proofs.Masks.{covers_apart, one_question}

-- two numbers of 64 bits, spread
pub spread_lt : (x y : ℕ) → x < 2 ^ 64 → y < 2 ^ 64
    → x % 4294967296 * 1013904223 + x / 4294967296 * 805459861 + (y % 4294967296 * 927492323 + y / 4294967296 * 634603861) < 15 * 10 ^ 18
spread_lt x y l m =
    lt_of_le_of_lt
    (add-le-add (add-le-add (most (x % 4294967296) 1013904223 (omega arith)) (most (x / 4294967296) 805459861 (omega arith))) (add-le-add (most (y % 4294967296) 927492323 (omega arith)) (most (y / 4294967296) 634603861 (omega arith))))
    (omega arith)
  where
    most : (a k : ℕ) → a ≤ 4294967295 → a * k ≤ 4294967295 * k
    most a k h = mul-le-mul_right k h

-- a part of 2^32, taken of g guesses
module _ (x g : ℕ) (part : x < 4294967296) where
  under : 1 ≤ g → x * g < 4294967296 * g
  under some = mul-lt-mul_of_pos_right part some

  pub share_fits : 1 ≤ g → g ≤ 65551 → x * g < 2 ^ 64
  share_fits some few = omega (arith, under some)

  pub share_lt : 1 ≤ g → x * g / 4294967296 < g
  share_lt some = (div-lt_iff_lt-mul {k = 4294967296} (omega arith)).1 (subst (λ (y : ℕ). x * g < y) (mul_comm 4294967296 g) (under some))

-- one of the first n is asked one question
pub asked : {n : ℕ} (links contexts : List ℕ) (next q : ℕ) (lacks : Context) {s : ℕ} → 0 < next → next ≤ n → s ≡ link_state (get_or links (next - 1) 0)
    → eqb (bit_or (bit_or (bit_xor s q) (bit_and (get_or contexts (2 * (next - 1)) 0) lacks.reach)) (bit_and (get_or contexts (2 * (next - 1) + 1) 0) lacks.through)) 0 ≡ guessed n links contexts next q lacks
unfolding guessed apart
asked {n} links contexts next q lacks {s} some within is =
    one_question s q (bit_and (get_or contexts (2 * (next - 1)) 0) lacks.reach) (bit_and (get_or contexts (2 * (next - 1) + 1) 0) lacks.through)
    ∙ rw (lt-ltb 0 next some, le-leb next n within, is)

-- an entry that is rightly guessed covers
module _ (rows n link : ℕ) (links contexts : List ℕ) (c : Context) where
  abbrev table : List Period
  table = held n links contexts

  pub guessed_covers : (next : ℕ) {q : ℕ} {lacks : Context} → q ≡ link_state link → lacks ≡ lacking rows c → guessed n links contexts next q lacks ≡ true
      → covered (covers rows) table (record { link = link; context = c }) ≡ true
  unfolding guessed
  guessed_covers next {q} {lacks} at is right =
      let there = and_left (ltb 0 next && leb next n) _ right in
      let low : next - 1 < n = omega (arith, ltb-true 0 next (and_left (ltb 0 next) (leb next n) there), leb-true next n (and_right (ltb 0 next) (leb next n) there)) in
      let same = and_right (ltb 0 next && leb next n) _ right in
      let state = eqb-true (link_state (get_or links (next - 1) 0)) q (and_left _ (apart (context_in contexts (next - 1)) lacks) same) in
      let clear = and_right (eqb (link_state (get_or links (next - 1) 0)) q) _ same in
      let (e, found) = entry table (next - 1) (omega (arith, low, held_length links contexts n)) in
      let entry_is : e ≡ entry_in links contexts (next - 1) = sym (at_get_d e found) ∙ held_at links contexts n (next - 1) e low in
      covered_by (covers rows) (record { link = link; context = c }) found
      (ap (λ (d : Period). covers rows d (record { link = link; context = c })) entry_is
      ∙ covers_apart rows (entry_in links contexts (next - 1)) (record { link = link; context = c }) (state ∙ at)
      ∙ ap (apart (context_in contexts (next - 1))) (sym is) ∙ clear)
