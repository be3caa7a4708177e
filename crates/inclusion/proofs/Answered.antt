-- What the answer to a walk's ending says, verdict by verdict. Assumes nothing.
use mathlib.Core.Bool.{true}
use mathlib.Core.Logic.{◌↔◌}
use mathlib.Core.Path.{◌≡◌, refl, ap}
use Prim.Native.Nat.{ℕ}
use native.Mathlib.Omega.{arith}
use lib.ListN.{length}
use Rattle.search.specs.declared.Counts.{Counts}
use Rattle.search.specs.declared.Lengths.{Lengths}
use Rattle.walk.specs.Walk.{Verdict, included, shown, stems_full, periods_full}
use Rattle.search.specs.Ending.{ending_by, stem_shown, period_shown}
use Rattle.walk.proofs.Runs.{decided}
use Rattle.inclusion.specs.declared.Answer.{Answer}
use Rattle.inclusion.specs.declared.Answer.TheVariants as says
use Rattle.inclusion.specs.Answers.{answer_to, numbers_of}
use Rattle.inclusion.specs.Decided.{number_of, which_of, counts_in}

-- the verdict shows words of these lengths
pub record Shows (v : Verdict) (l : Lengths) : Type 0 where
  pub verdict_is : v ≡ shown (stem_shown v) (period_shown v)
  pub stem_is : l.stem ≡ length (stem_shown v)
  pub period_is : l.period ≡ length (period_shown v)

module _ (S P : ℕ) (c : Counts) where
  abbrev pub answer_by : Verdict → Answer
  answer_by v = answer_to S P (ending_by c v)

  pub counts_are : (v : Verdict) → counts_in (answer_by v) ≡ c
  unfolding answer_to ending_by
  counts_are included = refl
  counts_are (shown x y) = refl
  counts_are (stems_full k) = refl
  counts_are periods_full = refl

  pub zero_decided : (v : Verdict) → (number_of (answer_by v) ≡ 0) ↔ (decided v ≡ true)
  unfolding answer_to ending_by numbers_of
  zero_decided included = (λ e. refl, λ e. refl)
  zero_decided (shown x y) = (λ e. refl, λ e. refl)
  zero_decided (stems_full k) = (λ e. absurd (omega arith), λ e. absurd cc)
  zero_decided periods_full = (λ e. absurd (omega arith), λ e. absurd cc)

  pub eight_stems : (k : ℕ) (v : Verdict) → ((number_of (answer_by v) ≡ 8) × (which_of (answer_by v) ≡ k)) ↔ (v ≡ stems_full k)
  unfolding answer_to ending_by numbers_of
  eight_stems k included = (λ e. absurd (omega arith), λ e. absurd cc)
  eight_stems k (shown x y) = (λ e. absurd (omega arith), λ e. absurd cc)
  eight_stems k (stems_full j) = (λ e. ap stems_full e.1, λ e. (refl, cc))
  eight_stems k periods_full = (λ e. absurd (omega arith), λ e. absurd cc)

  pub nine_periods : (v : Verdict) → (number_of (answer_by v) ≡ 9) ↔ (v ≡ periods_full)
  unfolding answer_to ending_by numbers_of
  nine_periods included = (λ e. absurd (omega arith), λ e. absurd cc)
  nine_periods (shown x y) = (λ e. absurd (omega arith), λ e. absurd cc)
  nine_periods (stems_full j) = (λ e. absurd (omega arith), λ e. absurd cc)
  nine_periods periods_full = (λ e. refl, λ e. refl)

  pub included_from : (v : Verdict) {d : Counts} → answer_by v ≡ says.Included d → v ≡ included
  unfolding answer_to ending_by
  included_from included e = refl
  included_from (shown x y) e = absurd cc
  included_from (stems_full k) e = absurd cc
  included_from periods_full e = absurd cc

  pub shown_from : (v : Verdict) {d : Counts} {l : Lengths} → answer_by v ≡ says.NotIncluded d l → Shows v l
  unfolding answer_to ending_by stem_shown period_shown
  shown_from (shown x y) e = record { verdict_is = refl; stem_is = cc; period_is = cc }
  shown_from included e = absurd cc
  shown_from (stems_full k) e = absurd cc
  shown_from periods_full e = absurd cc
