-- `take_all` meets its contract. The loop's invariant: what comes of taking the entries from i on is what comes of taking all. Assumes nothing.
use native.Mathlib.Omega.{arith}
use native.Mathlib.Nat.{sub-zero}
use Rattle.stems.proofs.Loop.{take_one, take_none, going_from, going_on, going_full, going_end}
use Rattle.stems.proofs.growing.Growing.take_all.Goals as goal

pub loop-i-init : goal.loop-i-init
loop-i-init c = rw sub-zero (going_from _)

pub returns-in_err-expand : goal.returns-in_err-expand
returns-in_err-expand c =
    going_full _ _ c.loop-i.invariant (take_one _ c.loop-i.invariant.grown c.loop-i.i (omega arith))
    c.expand.ensures c.in_err-expand.was c.from_residual.ensures.0

pub loop-i-preserved : goal.loop-i-preserved
loop-i-preserved c =
    going_on _ _ c.loop-i.invariant (take_one _ c.loop-i.invariant.grown c.loop-i.i (omega arith))
    c.expand.ensures c.in_ok-expand.was

pub returns : goal.returns
returns c =
    going_end c.loop-i.invariant (take_none _ c.loop-i.invariant.grown c.loop-i.i (omega arith))
