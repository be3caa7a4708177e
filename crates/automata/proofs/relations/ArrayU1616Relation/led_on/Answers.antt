-- `Relation::led_on` of sixteen states meets its contract. Assumes nothing.
use borrow.Author.Rules.{rules}
use native.Mathlib.Omega.{arith}
use Rattle.bits.proofs.Operations.{weighed_lt}
use Rattle.automata.specs.Repeated.{led_on}
use Rattle.automata.proofs.Listed.{short, added_all, times_listed}
use Rattle.automata.proofs.relations.ArrayU1616Relation.led_on.Goals as goal

pub returns : goal.returns
unfolding led_on
returns c =
    let args = c.args in
    added_all 16 args.self (short _ (search rules)) _ (λ q h. times_listed 16 args.c (short _ (search rules)) q h args.p args.y c.requires)
    (λ q h. weighed_lt _ c.ranges.y.fits) c.loop-q.invariant (omega arith)
