-- What the walk is given, and what it then leaves. Assumes nothing.
use Rattle.std.specs.Prelude.{◌≡◌, false, List, ℕ, ◌*◌, ◌≤◌, Result, length, drop}
use Rattle.acceptance.specs.Lasso.{Aut}
use Rattle.acceptance.specs.Contexts.{Small}
use Rattle.growth.specs.Numbered.{Bounded}
use Rattle.growth.specs.Lent.{over}
use Rattle.walk.specs.Walk.{Finish, Walked}
use Rattle.spelling.specs.Written.{Backward}
use Rattle.rounds.specs.declared.Tally.{Tally}
use Rattle.rounds.specs.declared.Stop.{Stop}
use Rattle.rounds.specs.Finished.{Legible}
use Rattle.search.specs.declared.Lent.{Lent}
use Rattle.search.specs.declared.Ending.{Ending}
use Rattle.search.specs.Ending.{ending_by, ending_of, stem_shown, period_shown, Buffers, left_by}

-- what the lent buffers hold
abbrev pub contents : Lent → Buffers
contents l = record {
  smallest = l.smallest.now;
  largest = l.largest.now;
  links = l.links.now;
  contexts = l.contexts.now;
  stem = l.stem.now;
  period = l.period.now;
}

-- the same buffers are still lent, each as long as it was
pub record StillLent (old new : Lent) : Type 0 where
  pub smallest : new.smallest.ghost_name ≡ old.smallest.ghost_name
  pub largest : new.largest.ghost_name ≡ old.largest.ghost_name
  pub links : new.links.ghost_name ≡ old.links.ghost_name
  pub contexts : new.contexts.ghost_name ≡ old.contexts.ghost_name
  pub stem : new.stem.ghost_name ≡ old.stem.ghost_name
  pub period : new.period.ghost_name ≡ old.period.ghost_name
  pub smallest_long : length new.smallest.now ≡ length old.smallest.now
  pub largest_long : length new.largest.now ≡ length old.largest.now
  pub links_long : length new.links.now ≡ length old.links.now
  pub contexts_long : length new.contexts.now ≡ length old.contexts.now
  pub stem_long : length new.stem.now ≡ length old.stem.now
  pub period_long : length new.period.now ≡ length old.period.now

-- S and P in range, and lent tables and outputs that are long enough for them
pub record Enough (S P : ℕ) (lent : Buffers) : Type 0 where
  pub some_stems : 1 ≤ S
  pub few_stems : S ≤ 4096
  pub some_periods : 1 ≤ P
  pub few_periods : P ≤ 65535
  pub smallest_fits : S ≤ length lent.smallest
  pub largest_fits : S ≤ length lent.largest
  pub links_fit : P ≤ length lent.links
  pub contexts_fit : 2 * P ≤ length lent.contexts
  pub stem_fits : S ≤ length lent.stem
  pub period_fits : P ≤ length lent.period

-- with them, automata of few states and letters
pub record Prepared (A B : Aut) (S P : ℕ) (lent : Buffers) : Type 0 where
  pub enough : Enough S P lent
  pub bounded : Bounded 16 16 A
  pub small : Small 8 B

-- a buffer in which the first n numbers alone may differ
pub record Kept (n : ℕ) (old new : List ℕ) : Type 0 where
  pub long : length new ≡ length old
  pub beyond : drop n new ≡ drop n old

-- the answer of a walk, and what it leaves in the buffers, before the links and the contexts are cleared
pub record Told (r : Walked) (P : ℕ) (old new : Buffers) (e : Ending) : Type 0 where
  pub answer : e ≡ ending_of r
  pub smallest_left : new.smallest ≡ over r.smallest old.smallest
  pub largest_left : new.largest ≡ over r.largest old.largest
  pub links_kept : Kept P old.links new.links
  pub contexts_kept : Kept (2 * P) old.contexts new.contexts
  pub stem_left : new.stem ≡ over (stem_shown r.finish.verdict) old.stem
  pub period_left : new.period ≡ over (period_shown r.finish.verdict) old.period

-- the answer of a walk, and what it leaves in all of them
pub record Concluded (r : Walked) (P : ℕ) (old new : Buffers) (e : Ending) : Type 0 where
  pub answer : e ≡ ending_of r
  pub left : new ≡ left_by r P old

-- ---- the words of a rejected lasso

-- where one was found, its words can be read back, and fit
pub record Showable (u links stem period : List ℕ) (r : Result Tally Stop) : Type 0 where
  pub room : ℕ
  pub legible : Legible room u links r
  pub stems_back : Backward false u
  pub stem_fits : length u ≤ length stem
  pub links_fit : room ≤ length links
  pub period_fits : room ≤ length period

-- the finish of rounds over tables of u and w entries is told, and its words are written
pub record Shows (u w : ℕ) (f : Finish) (stem₀ stem period₀ period : List ℕ) (e : Ending) : Type 0 where
  pub answer : e ≡ ending_by (record { u = u; w = w; p = f.periods; t = f.tests }) f.verdict
  pub stem_left : stem ≡ over (stem_shown f.verdict) stem₀
  pub period_left : period ≡ over (period_shown f.verdict) period₀
