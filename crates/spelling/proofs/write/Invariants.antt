use mathlib.Core.Path.{◌≡◌}
use mathlib.Core.List.{◌++◌}
use lib.ListN.{drop}
use Rattle.walk.specs.Words.{top_of}
use Rattle.spelling.proofs.Chain.{Inside, spelled}
use Prim.Native.Nat.{◌≤◌}
use lib.ListN.{length}
use Rattle.spelling.proofs.write.Given as goal

abbrev pub invariant-loop-i : goal.invariant-loop-i
invariant-loop-i g l = (l.end ≡ top_of g.E.Entry.links) × Inside g.E.Entry.links l.table (length l.table) l.i × (length l.prefix ≡ l.n) × (l.n ≡ length (spelled g.E.Entry.links l.table l.entry)) × (l.free ≡ length (spelled g.E.Entry.links l.table l.i)) × (l.free ≤ l.n) × (spelled g.E.Entry.links l.table l.i ++ drop l.free l.prefix ≡ spelled g.E.Entry.links l.table l.entry)

abbrev pub decreases-loop-i : goal.decreases-loop-i
decreases-loop-i g l = l.free
