-- `spelling::letters` meets its contract. The loop's invariant: the letters passed and those from i up are the word's. Assumes nothing.
use Rattle.spelling.proofs.Chain.{step, spelled_top, spelled_word}
use mathlib.Core.Path.{ap, ◌∙◌}
use native.Mathlib.Omega.{arith}
use lib.ListN.{length}
use Rattle.spelling.proofs.letters.Goals as goal

pub loop-i-preserved : goal.loop-i-preserved
loop-i-preserved g c =
    let loop = c.loop-i in
    let args = c.args in
    let up = step g.E.Entry.links args.table.now c.requires.backward loop.invariant.1 loop.invariant.0 c.loop-i-test.true in
    (loop.invariant.0, rw c.parent-i.ensures up.up, rw c.parent-i.ensures (omega (arith, up.count)))

pub returns : goal.returns
returns g c =
    let loop = c.loop-i in
    let args = c.args in
    let pre = c.requires in
    omega (arith, ap length (spelled_top g.E.Entry.links args.table.now (c.loop-i-test.false ∙ loop.invariant.0)), ap length (spelled_word g.E.Entry.links args.table.now pre.backward args.entry pre.in_bounds))
