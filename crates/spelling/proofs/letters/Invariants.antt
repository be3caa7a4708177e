use Prim.Native.Nat.{◌+◌}
use mathlib.Core.Path.{◌≡◌}
use Rattle.walk.specs.Words.{top_of}
use Rattle.spelling.proofs.Chain.{Inside, spelled}
use lib.ListN.{length}
use Rattle.spelling.proofs.letters.Given as goal

abbrev pub invariant-loop-i : goal.invariant-loop-i
invariant-loop-i g l = (l.end ≡ top_of g.E.Entry.links) × Inside g.E.Entry.links l.table (length l.table) l.i × (l.n + length (spelled g.E.Entry.links l.table l.i) ≡ length (spelled g.E.Entry.links l.table l.entry))

abbrev pub decreases-loop-i : goal.decreases-loop-i
decreases-loop-i g l = length (spelled g.E.Entry.links l.table l.i)
