-- `Relation::met` of sixteen states meets its contract. Assumes nothing.
use borrow.Author.Rules.{rules}
use native.Mathlib.Omega.{arith}
use Rattle.automata.proofs.Rows.{meet_lt}
use Rattle.automata.proofs.Listed.{short, added_all, and_listed}
use Rattle.automata.proofs.relations.ArrayU1616Relation.met.Goals as goal

pub returns : goal.returns
returns c =
    let args = c.args in
    added_all 16 args.self (short _ (search rules)) _ (λ q h. and_listed 16 args.reach (short _ (search rules)) q h args.accepting)
    (λ q h. meet_lt 16 _ args.accepting) c.loop-q.invariant (omega arith)
