use Prim.Native.Nat.{◌*◌, ◌/◌, ◌^◌}
use lib.Bits.{bit_and}
use lib.ListN.{get_or}
use Rattle.automata.proofs.Listed.{Added}
use Rattle.automata.proofs.relations.ArrayU1616Relation.led_on.Given as goal

abbrev pub invariant-loop-q : goal.invariant-loop-q
invariant-loop-q l = Added l.fn.self (λ q. bit_and (get_or l.c q 0 / 2 ^ l.p) 1 * l.y) l.row-items l.q
