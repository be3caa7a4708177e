use Rattle.automata.specs.Loaded.{aut, steps_of, of_pairs}
use Rattle.growth.specs.Grow.{offer}
use Rattle.covering.specs.Masks.{covers}
use Rattle.offering.specs.Growing.{entries_of}
use Rattle.periods.specs.Periods.{word_next}
use Rattle.periods.proofs.Going.{Going}
use Rattle.periods.proofs.Loop.{from}
use Rattle.periods.proofs.Candidates.{by_letter}
use Rattle.periods.proofs.table.expand.Given as goal

abbrev pub invariant-loop-x : goal.invariant-loop-x
invariant-loop-x l =
    let s = l.initial.table in
    Going (offer (covers s.rows) s.room (entries_of s) (word_next (steps_of l.model.table) (aut l.rule) l.word.state l.word.parent (of_pairs l.word.context))) (from (by_letter l.model.table (aut l.rule) l.word) 16 s l.x) s l.table
