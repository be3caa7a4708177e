-- What the walk leaves once the links and the contexts are cleared. Assumes nothing.
use mathlib.Core.Path.{◌≡◌}
use mathlib.Core.List.{List}
use Prim.Native.Nat.{ℕ, ◌*◌}
use lib.ListN.{replicate, length-replicate}
use Rattle.growth.specs.Lent.{over}
use Rattle.walk.specs.Walk.{Walked}
use Rattle.search.specs.declared.Ending.{Ending}
use Rattle.search.specs.Ending.{Buffers, left_by}
use Rattle.search.specs.Contract.{Kept, Told, Concluded}

-- zeroes in place of the first n, where only those differ before
cleared : (n : ℕ) {old new : List ℕ} → Kept n old new → over (replicate n 0) new ≡ over (replicate n 0) old
unfolding over
cleared n kept = rw (length-replicate {A = ℕ} n 0, kept.beyond)

pub concluded : {r : Walked} {P : ℕ} {old new : Buffers} {e : Ending} {links contexts : List ℕ} → Told r P old new e → links ≡ over (replicate P 0) new.links → contexts ≡ over (replicate (2 * P) 0) new.contexts
    → Concluded r P old (record { smallest = new.smallest; largest = new.largest; links = links; contexts = contexts; stem = new.stem; period = new.period }) e
unfolding left_by
concluded {P = P} told links contexts = record {
  answer = told.answer;
  left = rw (links, contexts, cleared P told.links_kept, cleared (2 * P) told.contexts_kept, told.smallest_left, told.largest_left, told.stem_left, told.period_left);
}
