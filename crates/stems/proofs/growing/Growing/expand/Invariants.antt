use Prim.Native.Nat.{◌-◌}
use lib.ListN.{get_or}
use Rattle.growth.specs.Grow.{offer}
use Rattle.growth.specs.Steps.{gather}
use Rattle.automata.specs.Loaded.{aut}
use Rattle.stems.specs.Stems.{stem_covers, stem_next}
use Rattle.stems.specs.Growing.{held, offered}
use Rattle.stems.proofs.Candidates.{by_letter}
use Rattle.stems.proofs.Loop.{Going}
use Rattle.stems.proofs.growing.Growing.expand.Given as goal

abbrev pub invariant-loop-x : goal.invariant-loop-x
invariant-loop-x l =
    let old = l.initial.self in
    let entry = get_or old.table.now l.i 0 in
    Going (offered old (stem_next (aut l.model) (aut l.rule) l.i entry)) (offer (stem_covers old.largest) old.room (held l.self) (gather l.x (16 - l.x) (by_letter l.model l.rule l.i entry))) old l.self
