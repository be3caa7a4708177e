-- What the walk answers, and what each lent buffer then holds, read off the written walk. Assumes nothing.
use Rattle.std.specs.Prelude.{List, [], ℕ, ◌*◌, length, replicate}
use Rattle.acceptance.specs.Lasso.{Word}
use Rattle.growth.specs.Lent.{over}
use Rattle.search.specs.declared.Counts.{Counts}
use Rattle.search.specs.declared.Ending.{Ending}
use Rattle.search.specs.declared.Ending.TheVariants.{Included, Shown, StemsFull, PeriodsFull}
use Rattle.walk.specs.Walk.{Verdict, included, shown, stems_full, periods_full, Walked}

abbrev pub counts_of : Walked → Counts
counts_of r = record { u = length r.smallest; w = length r.largest; p = r.finish.periods; t = r.finish.tests }

-- the ending of a walk with these counts
unfoldable pub ending_by : Counts → Verdict → Ending
ending_by counts included = Included counts
ending_by counts (shown u v) = Shown counts (record { stem = length u; period = length v })
ending_by counts (stems_full k) = StemsFull k counts
ending_by counts periods_full = PeriodsFull counts

abbrev pub ending_of : Walked → Ending
ending_of r = ending_by (counts_of r) r.finish.verdict

-- the words that are shown; empty where none is
unfoldable pub stem_shown : Verdict → Word
stem_shown (shown u v) = u
stem_shown included = []
stem_shown (stems_full k) = []
stem_shown periods_full = []

unfoldable pub period_shown : Verdict → Word
period_shown (shown u v) = v
period_shown included = []
period_shown (stems_full k) = []
period_shown periods_full = []

-- the six lent buffers
pub record Buffers : Type 0 where
  pub smallest : List ℕ
  pub largest : List ℕ
  pub links : List ℕ
  pub contexts : List ℕ
  pub stem : List ℕ
  pub period : List ℕ

-- what a walk with room for P periods leaves in them: U and W hold their entries, the first P links and 2 P context numbers are zero, the
-- outputs hold the words that are shown; whatever lies beyond is as it came
unfoldable pub left_by : Walked → ℕ → Buffers → Buffers
left_by r P old = record {
  smallest = over r.smallest old.smallest;
  largest = over r.largest old.largest;
  links = over (replicate P 0) old.links;
  contexts = over (replicate (2 * P) 0) old.contexts;
  stem = over (stem_shown r.finish.verdict) old.stem;
  period = over (period_shown r.finish.verdict) old.period;
}
