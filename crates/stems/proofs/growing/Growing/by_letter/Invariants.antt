use Prim.Native.Nat.{◌-◌}
use Rattle.growth.specs.Grow.{offer}
use Rattle.growth.specs.Steps.{gather}
use Rattle.stems.specs.Stems.{stem_covers}
use Rattle.stems.specs.Candidates.{at_state, at_letter}
use Rattle.stems.specs.Growing.{held, offered}
use Rattle.stems.proofs.Loop.{Going}
use Rattle.stems.proofs.growing.Growing.by_letter.Given as goal

abbrev pub invariant-loop-q : goal.invariant-loop-q
invariant-loop-q l = Going (offered l.initial.self (at_letter l.by)) (offer (stem_covers l.initial.self.largest) l.initial.self.room (held l.self) (gather l.q (16 - l.q) (at_state l.by))) l.initial.self l.self
