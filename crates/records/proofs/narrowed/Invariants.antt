use mathlib.Core.List.{[]}
use Rattle.bits.proofs.Values.{Filled}
use Rattle.records.specs.Narrow.{narrow_row}
use Rattle.records.proofs.narrowed.Given as goal

abbrev pub invariant-loop-x : goal.invariant-loop-x
invariant-loop-x l = Filled [] (narrow_row l.table) 16 l.row-items l.x
