-- `marks::mark` meets its contract. The loop's invariant: the flags of the first g groups of eight are raised. Assumes nothing.
use native.Mathlib.Omega.{arith}
use Rattle.stems.proofs.Flags.{raised_more}
use Rattle.stems.proofs.marks.mark.Goals as goal

pub loop-g-preserved : goal.loop-g-preserved
loop-g-preserved c =
    rw c.from.ensures
    (raised_more _ _ c.loop-g.g c.loop-g.invariant c.requires (omega arith) (omega arith) c.stem_target-target.ensures c.covered_from.ensures)
