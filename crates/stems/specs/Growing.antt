-- A lent table and its flags while the table grows: before candidates are offered, and after. Assumes nothing.
use Rattle.std.specs.Prelude.{◌≡◌, List, ℕ, Result, Ok, Err, take}
use Rattle.growth.specs.Grow.{Outcome, ended, full, entries, offer}
use Rattle.growth.specs.Lent.{over}
use Rattle.growth.specs.declared.Full.{Full}
use Rattle.stems.specs.declared.growing.Growing.{Growing}
use Rattle.stems.specs.Stems.{stem_covers}

-- the first n elements are the entries
abbrev pub held : Growing → List ℕ
held g = take g.n g.table.now

-- what comes of the candidates cs, offered to the entries
abbrev pub offered : Growing → List ℕ → Outcome ℕ
offered g cs = offer (stem_covers g.largest) g.room (held g) cs

-- `old` has become `new`: the same table with other entries, and beyond them its elements as they were
pub record Grown (old new : Growing) : Type 0 where
  pub same_reference : new.table.ghost_name ≡ old.table.ghost_name
  pub same_room : new.room ≡ old.room
  pub same_largest : new.largest ≡ old.largest
  pub beyond : new.table.now ≡ over (held new) old.table.now

-- whether the table lacked room
abbrev pub answer_of : Outcome ℕ → Result (Unit {0}) Full
answer_of (ended t) = Ok tt
answer_of (full t) = Err (record {})

-- an outcome is kept: the table holds its entries
pub record Kept (o : Outcome ℕ) (old new : Growing) (r : Result (Unit {0}) Full) : Type 0 where
  pub grown : Grown old new
  pub holds : held new ≡ entries o
  pub answer : r ≡ answer_of o
