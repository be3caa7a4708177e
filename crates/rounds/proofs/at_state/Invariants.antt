use Rattle.rounds.proofs.States.{round_for}
use Rattle.rounds.proofs.Onward.{Onward}
use Rattle.rounds.specs.Round.{StillLent}
use Rattle.automata.specs.Loaded.{aut}
use Prim.Native.Nat.{◌+◌, ◌*◌, ◌^◌, ◌≤◌}
use lib.ListN.{length}
use Rattle.rounds.proofs.at_state.Given as goal

abbrev pub invariant-loop-entry : goal.invariant-loop-entry
invariant-loop-entry l = record {
  lent : StillLent l.fn.lent l.lent;
  few : l.tally.t ≤ l.fn.before.t + l.entry-index * 2 ^ 28;
  left : Onward (aut l.on.model.now) (aut l.on.rule.now) l.on.stems.now l.on.room (round_for (aut l.on.model.now) l.largest l.s) (length l.largest) l.fn.before l.entry-index l.tally;
}
