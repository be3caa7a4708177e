use lib.Bits.{bit_and}
use lib.ListN.{get_or}
use Rattle.automata.proofs.Listed.{Added}
use Rattle.automata.proofs.relations.ArrayU1616Relation.met.Given as goal

abbrev pub invariant-loop-q : goal.invariant-loop-q
invariant-loop-q l = Added l.fn.self (λ q. bit_and (get_or l.reach q 0) l.accepting) l.row-items l.q
