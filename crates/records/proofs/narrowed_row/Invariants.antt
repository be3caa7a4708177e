use Rattle.bits.proofs.Values.{Filled}
use Rattle.records.specs.Narrow.{narrow_cell}
use Rattle.records.proofs.narrowed_row.Given as goal

abbrev pub invariant-loop-p : goal.invariant-loop-p
invariant-loop-p l = Filled 0 (narrow_cell l.table l.x) 8 l.set-items l.p
