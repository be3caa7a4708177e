use Rattle.rounds.proofs.Onward.{Onward}
use Rattle.walk.specs.Walk.{rounds_at}
use Rattle.rounds.specs.Round.{StillLent}
use Rattle.automata.specs.Loaded.{aut}
use Prim.Native.Nat.{◌*◌, ◌^◌, ◌≤◌}
use Rattle.rounds.proofs.each_state.Given as goal

abbrev pub invariant-loop-s : goal.invariant-loop-s
invariant-loop-s l = record {
  lent : StillLent l.fn.lent l.lent;
  few : l.tally.t ≤ l.s * 2 ^ 40;
  left : Onward (aut l.on.model.now) (aut l.on.rule.now) l.on.stems.now l.on.room (rounds_at (aut l.on.model.now) l.largest) 16 (record { p = 0; t = 0 }) l.s l.tally;
}
