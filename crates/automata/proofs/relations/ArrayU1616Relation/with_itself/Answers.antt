-- `Relation::with_itself` of sixteen states meets its contract. Assumes nothing.
use borrow.Author.Rules.{rules}
use native.Mathlib.Omega.{arith}
use lib.Pow.{pow-lt}
use Rattle.automata.specs.Repeated.{paths_over}
use Rattle.automata.proofs.Members.{shifted_one}
use Rattle.automata.proofs.Listed.{short, added_all}
use Rattle.automata.proofs.relations.ArrayU1616Relation.with_itself.Goals as goal

pub returns : goal.returns
unfolding paths_over
returns c = added_all 16 c.args.self (short _ (search rules)) _ (shifted_one 16) (λ q h. pow-lt h) c.loop-q.invariant (omega arith)
