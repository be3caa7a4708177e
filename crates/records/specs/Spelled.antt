-- A file of four-byte records, and the automaton that its bytes spell out (document 01, "Files"). Assumes nothing.
use Rattle.std.specs.Prelude.{Bool, false, ◌&&◌, cond, List, ℕ, zero, suc, ◌/◌, max, eqb, length}
use Rattle.bits.specs.Bits.{set_of, any, values}
use Rattle.acceptance.specs.Lasso.{Aut}
pub use Rattle.adding.specs.Bytes.{byte, kind_i, kind_f, kind_t}

-- how many whole records there are
abbrev pub count : List ℕ → ℕ
count s = length s / 4

-- record i consists of these four bytes
unfoldable pub is_record : List ℕ → ℕ → ℕ → ℕ → ℕ → ℕ → Bool
is_record s i kind a b c = eqb (byte s i 0) kind && (eqb (byte s i 1) a && (eqb (byte s i 2) b && eqb (byte s i 3) c))

-- one of the first n records does
unfoldable pub among : List ℕ → ℕ → ℕ → ℕ → ℕ → ℕ → Bool
among s n kind a b c = any (λ i. is_record s i kind a b c) n

-- one of the first n records is an I
unfoldable pub started : List ℕ → ℕ → Bool
started s n = any (λ i. eqb (byte s i 0) kind_i) n

-- the state that an I among the first n records names
unfoldable pub start_in : List ℕ → ℕ → ℕ
start_in s zero = 0
start_in s (suc n) = cond (eqb (byte s n 0) kind_i) (byte s n 1) (start_in s n)

-- one more than the largest state number that record i names: an I and an F name one, a T its two ends
unfoldable pub named : List ℕ → ℕ → ℕ
named s i = suc (cond (eqb (byte s i 0) kind_t) (max (byte s i 1) (byte s i 3)) (byte s i 1))

-- one more than the largest that the first n records name
unfoldable pub states_in : List ℕ → ℕ → ℕ
states_in s zero = 0
states_in s (suc n) = max (states_in s n) (named s n)

-- the automaton that the bytes spell out: the one I's state, a transition for each T, an accepting state for each F
unfoldable pub spelled : List ℕ → Aut
spelled s = record {
  start = start_in s (count s);
  step = λ p x q. among s (count s) kind_t p x q;
  final = λ q. among s (count s) kind_f q 0 0;
  mark = λ p x q. false;
}

-- the same loaded, of the first n records: sixteen rows of sixteen sets, by letter and then by state
unfoldable pub table_of : List ℕ → ℕ → List (List ℕ)
table_of s n = values (λ x. values (λ p. set_of (λ q. among s n kind_t p x q) 16) 16) 16

unfoldable pub accepting_in : List ℕ → ℕ → ℕ
accepting_in s n = set_of (λ q. among s n kind_f q 0 0) 16
