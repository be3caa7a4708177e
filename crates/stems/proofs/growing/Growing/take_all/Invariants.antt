use Prim.Native.Nat.{◌-◌}
use Rattle.growth.specs.Grow.{grow}
use Rattle.automata.specs.Loaded.{aut}
use Rattle.stems.specs.Stems.{stem_covers, stem_next}
use Rattle.stems.specs.Growing.{held}
use Rattle.stems.proofs.Loop.{Going}
use Rattle.stems.proofs.growing.Growing.take_all.Given as goal

abbrev pub invariant-loop-i : goal.invariant-loop-i
invariant-loop-i l =
    let old = l.initial.self in
    let taken = grow (stem_covers old.largest) (stem_next (aut l.model) (aut l.rule)) old.room in
    Going (taken old.room 0 (held old)) (taken (old.room - l.i) l.i (held l.self)) old l.self

abbrev pub decreases-loop-i : goal.decreases-loop-i
decreases-loop-i l = l.self.room - l.i
