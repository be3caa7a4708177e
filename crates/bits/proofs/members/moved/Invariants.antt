use mathlib.Core.Path.{◌≡◌}
use Rattle.bits.specs.Sets.{by_sets}
use Rattle.bits.proofs.Moved.{moved_below}
use Rattle.bits.proofs.members.moved.Given as goal

abbrev pub invariant-loop-q : goal.invariant-loop-q
invariant-loop-q g l =
    let S = g.S.Set in
    S.bits l.out ≡ moved_below S.WIDTH (by_sets S.bits S.none l.row) (S.bits l.x) l.q
