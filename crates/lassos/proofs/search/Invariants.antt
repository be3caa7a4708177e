use Rattle.lassos.proofs.Pairs.{pairs_from, pairs_on, Left}
use Rattle.walk.specs.Walk.{fits}
use lib.ListN.{length, get_or}
use mathlib.Core.Bool.{true}
use Prim.Native.Nat.{◌+◌, ◌*◌, ◌≤◌}
use mathlib.Core.Path.{◌≡◌}
use Rattle.lassos.proofs.search.Given as goal

abbrev pub invariant-search : goal.invariant-search
invariant-search l = record {
  few : l.tests ≤ l.before + l.u * length l.links;
  left : Left l.stems l.sets l.s l.target l.links l.before (pairs_from l.stems l.s l.target l.links l.u) l.tests;
}

abbrev pub invariant-loop-v : goal.invariant-loop-v
invariant-loop-v l = record {
  few : l.tests ≤ l.before + (l.u * length l.links + l.v);
  fit : fits l.s l.target (get_or l.stems l.u 0) ≡ true;
  left : Left l.stems l.sets l.s l.target l.links l.before (pairs_on l.stems l.s l.target l.links l.u l.v) l.tests;
}
