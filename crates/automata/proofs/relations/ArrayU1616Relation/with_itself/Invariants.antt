use Prim.Native.Nat.{◌^◌, ◌*◌, ◌%◌}
use Rattle.automata.proofs.Listed.{Added}
use Rattle.automata.proofs.relations.ArrayU1616Relation.with_itself.Given as goal

abbrev pub invariant-loop-q : goal.invariant-loop-q
invariant-loop-q l = Added l.fn.self (λ q. 1 * 2 ^ q % 65536) l.row-items l.q
