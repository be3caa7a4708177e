-- What a step of the growth of a period table is given, and what it leaves: the lent tables with their entries, and the chains of these. Assumes nothing.
use Rattle.std.specs.Prelude.{◌≡◌, List, [], ℕ, suc, ◌+◌, ◌*◌, ◌≤◌, Result, Ok, Err, length, get_or, set}
use Rattle.growth.specs.declared.Full.{Full}
use Rattle.growth.specs.Grow.{Outcome, entries}
use Rattle.covering.specs.Entries.{Period, held}
use Rattle.covering.specs.Masks.{covers}
use Rattle.covering.specs.Chained.{Chained}
use Rattle.offering.specs.declared.Table.{Table}
use Rattle.offering.specs.Lent.{Leaves}

-- its entries
abbrev pub entries_of : Table → List Period
entries_of t = held t.n t.links.now t.contexts.now

-- t has what is lent to s, each as long as it was, the room, and the rows
pub record Keeps (s t : Table) : Type 0 where
  pub links_kept : t.links.ghost_name ≡ s.links.ghost_name
  pub contexts_kept : t.contexts.ghost_name ≡ s.contexts.ghost_name
  pub chains_kept : t.chains.ghost_name ≡ s.chains.ghost_name
  pub links_long : length t.links.now ≡ length s.links.now
  pub contexts_long : length t.contexts.now ≡ length s.contexts.now
  pub chains_long : length t.chains.now ≡ length s.chains.now
  pub room_kept : t.room ≡ s.room
  pub rows_kept : t.rows ≡ s.rows

-- n entries are there, and the tables have room
pub record Roomy (t : Table) : Type 0 where
  pub within : t.n ≤ t.room
  pub small : t.room ≤ 65535
  pub links_fit : t.room ≤ length t.links.now
  pub contexts_fit : 2 * t.room ≤ length t.contexts.now
  pub chains_fit : 2 * (16 + t.room) ≤ length t.chains.now
  pub chains_short : length t.chains.now ≤ 131102

-- and they are chained
pub record Ready (t : Table) : Type 0 where
  pub roomy : Roomy t
  pub chained : Chained (covers t.rows) (entries_of t) [] t.chains.now

-- what is answered, with the number of the entries
abbrev pub counted : Result (Unit {0}) Full → ℕ → Result ℕ Full
counted (Ok u) n = Ok n
counted (Err e) n = Err e

-- a step to the outcome o; where room is lacking, the chains do not matter
pub record Grows (o : Outcome Period) (r : Result (Unit {0}) Full) (s t : Table) : Type 0 where
  pub keeps : Keeps s t
  pub count : t.n ≡ length (entries o)
  pub lent : Leaves o (counted r t.n) s.links.now t.links.now s.contexts.now t.contexts.now
  pub chained : r ≡ Ok tt → Chained (covers s.rows) (entries o) [] t.chains.now

-- the step to the outcome o that appends an entry at the state q: it comes first in its chain
pub record Appends (o : Outcome Period) (r : Result (Unit {0}) Full) (q : ℕ) (s t : Table) : Type 0 where
  pub keeps : Keeps s t
  pub count : t.n ≡ length (entries o)
  pub lent : Leaves o (counted r t.n) s.links.now t.links.now s.contexts.now t.contexts.now
  pub linked : r ≡ Ok tt → t.chains.now ≡ set (set s.chains.now (16 + s.n) (get_or s.chains.now q 0)) q (suc s.n)
