use Prim.Native.Nat.{◌-◌, ◌<◌}
use Rattle.automata.specs.Loaded.{aut, steps_of, of_pairs}
use Rattle.growth.specs.Grow.{table}
use Rattle.covering.specs.Masks.{covers}
use Rattle.periods.specs.Periods.{word_next, period_next}
use Rattle.periods.proofs.Going.{Going}
use Rattle.periods.proofs.Taking.{due}
use Rattle.periods.proofs.table.build.Given as goal

abbrev pub invariant-loop-table : goal.invariant-loop-table
invariant-loop-table l =
    let s = l.initial.table in
    let next = word_next (steps_of l.model.table) (aut l.rule) in
    (l.word.state < 16)
    × Going (table (covers s.rows) (period_next (steps_of l.model.table) (aut l.rule)) s.room (next l.initial.word.state l.initial.word.parent (of_pairs l.initial.word.context)))
    (due (period_next (steps_of l.model.table) (aut l.rule)) s (next l.word.state l.word.parent (of_pairs l.word.context)) l.i) s l.table

abbrev pub decreases-loop-table : goal.decreases-loop-table
decreases-loop-table l = 65536 - l.i
