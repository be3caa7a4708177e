-- What `decide` promises of its answer r and of the six buffers at exit, for any two files, any room S and P and any buffers: both are those of the
-- definitions, and beside these equations stands outright what document 01 demands of the verdict and of the counts. The automata are those that the
-- files' bytes spell out. Assumes nothing.
use Rattle.std.specs.Prelude.{◌≡◌, ◌↔◌, ℕ, ◌*◌, ◌^◌, ◌≤◌, ◌<◌, length, get_or, take}
use Rattle.std.proofs.Math.Option.{some}
use mathlib.Core.List.{List, Memᴰ}
use Rattle.acceptance.specs.Lasso.{Aut, Included, Shown}
use Rattle.growth.specs.Grow.{entries}
use Rattle.growth.specs.Tables.{members}
use Rattle.records.specs.Spelled.{count, states_in, spelled}
use Rattle.periods.specs.Periods.{period_table}
use Rattle.search.specs.declared.Counts.{Counts}
use Rattle.search.specs.declared.Lengths.{Lengths}
use Rattle.walk.specs.Walk.{Walked, rounds, unhindered}
use Rattle.search.specs.Ending.{Buffers}
use Rattle.walk.specs.Room.{Visit, visited, stops_at}
use Rattle.inclusion.specs.declared.Answer.{Answer}
use Rattle.inclusion.specs.declared.Answer.TheVariants as says
use Rattle.inclusion.specs.Answers.{walks, start_of, walk_of, decided, left, numbers_of}

-- the first two of document 01's nine numbers of an answer, and the counts
abbrev pub number_of : Answer → ℕ
number_of r = get_or (numbers_of r) 0 0

abbrev pub which_of : Answer → ℕ
which_of r = get_or (numbers_of r) 1 0

abbrev pub counts_in : Answer → Counts
counts_in (says.Included c) = c
counts_in (says.NotIncluded c l) = c
counts_in (says.Refused r c) = c

-- the number of states of a file's automaton
abbrev pub states_of : List ℕ → ℕ
states_of s = states_in s (count s)

-- counts that automata of a and b states allow
pub record Counted (a b : ℕ) (c : Counts) : Type 0 where
  pub u_bound : c.u ≤ a * 2 ^ b
  pub w_bound : c.w ≤ a * 2 ^ b
  pub p_bound : c.p ≤ a * 3 ^ (b * b)
  pub t_bound : c.t ≤ c.u * c.w * c.p

-- the period table of each entry w of W where a period can start: at most a · 3 ^ (k · b) entries, k being the members of w's target
pub record Tabled (A B : Aut) (a b P : ℕ) (w : List ℕ) : Type 0 where
  pub each : (c : ℕ × ℕ) → Memᴰ c (rounds A B w) → length (entries (period_table A B c.0 c.1 P)) ≤ a * 3 ^ (length (members 8 c.1) * b)

-- 8 for U, 8 for W, and 9 come exactly where the walk without room needs more than S stems or P periods; the tests made before 9 are those that it made
-- before the first table that needs more
pub record Lacking (free : Walked) (tables : List Visit) (S P : ℕ) (r : Answer) : Type 0 where
  pub in_u : ((number_of r ≡ 8) × (which_of r ≡ 0)) ↔ (S < length free.smallest)
  pub in_w : ((number_of r ≡ 8) × (which_of r ≡ 1)) ↔ ((length free.smallest ≤ S) × (S < length free.largest))
  pub in_periods : (number_of r ≡ 9) ↔ ((length free.smallest ≤ S) × (length free.largest ≤ S) × (stops_at P tables ≡ some (counts_in r).t))

-- the table that lacks room is then filled, and nothing after it was begun
pub record Filled (S P : ℕ) (r : Answer) : Type 0 where
  pub in_u : (number_of r ≡ 8) × (which_of r ≡ 0) → counts_in r ≡ record { u = S; w = 0; p = 0; t = 0 }
  pub in_w : (number_of r ≡ 8) × (which_of r ≡ 1) → counts_in r ≡ record { u = (counts_in r).u; w = S; p = 0; t = 0 }
  pub in_periods : number_of r ≡ 9 → (counts_in r).p ≡ P

module _ (model rule : List ℕ) where
  -- document 01's letters: the automata, and the numbers of their states
  abbrev A : Aut
  A = spelled model

  abbrev B : Aut
  B = spelled rule

  abbrev a : ℕ
  a = states_of model

  abbrev b : ℕ
  b = states_of rule

  -- good records, S and P in range and buffers long enough: the walk is made
  abbrev pub Made : (S P : ℕ) → Buffers → Type 0
  Made S P old = start_of model rule S P old ≡ walks

  pub record Decided (S P : ℕ) (old : Buffers) (r : Answer) (new : Buffers) : Type 0 where
    pub answer : r ≡ decided model rule S P old
    pub buffers : new ≡ left model rule S P old
    -- not included: the first bytes of the outputs at exit are a lasso that A accepts and B does not
    pub shown : (counts : Counts) (lengths : Lengths) → r ≡ says.NotIncluded counts lengths → Shown A B (take lengths.stem new.stem) (take lengths.period new.period)
    -- included: B accepts every lasso that A accepts
    pub included : (counts : Counts) → r ≡ says.Included counts → Included A B
    -- with that much room there is a verdict
    pub roomy : Made S P old → a * 2 ^ b ≤ S → a * 3 ^ (b * b) ≤ P → number_of r ≡ 0
    -- the counts, in all cases, and the period tables that they come from
    pub bounds : Counted a b (counts_in r)
    pub tables : Made S P old → Tabled A B a b P (walk_of model rule S P).largest
    -- where room is lacking, and the counts there
    pub short : Made S P old → Lacking (unhindered A B a b) (visited A B a b) S P r
    pub filled : Filled S P r
