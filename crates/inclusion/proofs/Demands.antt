-- The answer and the buffers of the definitions meet every demand. Assumes nothing.
use mathlib.Core.List.{List}
use mathlib.Core.Path.{◌≡◌, refl}
use Prim.Native.Nat.{ℕ, ◌*◌, ◌^◌, ◌≤◌}
use native.Mathlib.Omega.{arith}
use lib.ListN.{length, take}
use Rattle.acceptance.specs.Lasso.{Included, Shown}
use Rattle.growth.specs.Lent.{over}
use Rattle.growth.proofs.Offering.{take_over}
use Rattle.records.specs.declared.Refusal.{Refusal}
use Rattle.records.specs.Spelled.{spelled}
use Rattle.loading.proofs.Judged.{enough}
use Rattle.search.specs.declared.Counts.{Counts}
use Rattle.search.specs.declared.Lengths.{Lengths}
use Rattle.walk.specs.Walk.{Verdict, Walked, unhindered}
use Rattle.search.specs.Ending.{Buffers, counts_of, stem_shown, period_shown, left_by}
use Rattle.walk.specs.Room.{visited}
use Rattle.walk.proofs.Verdicts.{walk_included, walk_shown}
use Rattle.walk.proofs.Bounds.{walk_bounds, walk_tables, walk_decided}
use Rattle.walk.proofs.Room.{walk_filled, short}
use Rattle.inclusion.specs.declared.Answer.{Answer}
use Rattle.inclusion.specs.declared.Answer.TheVariants as says
use Rattle.inclusion.specs.Answers.{none_counted, Start, walks, stops, start_of, walk_of, decided, left, numbers_of}
use Rattle.inclusion.specs.Decided.{number_of, counts_in, states_of, Counted, Tabled, Lacking, Filled, Made, Decided}
use Rattle.inclusion.proofs.Started.{ready, model_bounded, rule_small, model_numbered, rule_numbered}
use Rattle.inclusion.proofs.Refusals.{stop_number}
use Rattle.inclusion.proofs.Answered.{answer_by, counts_are, zero_decided, eight_stems, nine_periods, included_from, shown_from}

-- the first elements of a buffer in which these were written
pub written : (w old : List ℕ) {n : ℕ} → n ≡ length w → take n (over w old) ≡ w
written w old e = rw e (take_over w old)

module _ (model rule : List ℕ) (S P : ℕ) (old : Buffers) where
  abbrev walk : Walked
  walk = walk_of model rule S P

  abbrev counts : Counts
  counts = counts_of walk

  abbrev verdict : Verdict
  verdict = walk.finish.verdict

  abbrev goes : Type 0
  goes = Made model rule S P old

  -- how the answer and the buffers at exit come about
  pub data Outcome : Answer → Buffers → Type 0 where
    stopped : (r : Refusal) → start_of model rule S P old ≡ stops r → Outcome (says.Refused r none_counted) old
    walked : goes → Outcome (answer_by S P counts verdict) (left_by walk P old)

  pub outcome : Outcome (decided model rule S P old) (left model rule S P old)
  unfolding decided left
  outcome = at (start_of model rule S P old) refl
    where
      at : (s : Start) → start_of model rule S P old ≡ s
          → Outcome (elim s [ walks ↦ answer_by S P counts verdict | stops r ↦ says.Refused r none_counted ]) (elim s [ walks ↦ left_by walk P old | stops r ↦ old ])
      at walks e = walked e
      at (stops r) e = stopped r e

  -- ---- each demand of it

  is_shown : {r : Answer} {new : Buffers} → Outcome r new → (c : Counts) (l : Lengths) → r ≡ says.NotIncluded c l → Shown (spelled model) (spelled rule) (take l.stem new.stem) (take l.period new.period)
  unfolding left_by
  is_shown (stopped refusal e) c l q = absurd cc
  is_shown (walked m) c l q =
      let (_, _, k) = ready m in
      let room = enough S P old k.lends in
      let s = shown_from S P counts verdict q in
      rw (written (stem_shown verdict) old.stem s.stem_is, written (period_shown verdict) old.period s.period_is)
      (walk_shown (model_bounded k) (rule_small k) S P room.few_stems room.few_periods s.verdict_is)

  is_included : {r : Answer} {new : Buffers} → Outcome r new → (c : Counts) → r ≡ says.Included c → Included (spelled model) (spelled rule)
  is_included (stopped refusal e) c q = absurd cc
  is_included (walked m) c q = let (_, _, k) = ready m in walk_included (model_bounded k) (rule_small k) S P (included_from S P counts verdict q)

  is_bounded : {r : Answer} {new : Buffers} → Outcome r new → Counted (states_of model) (states_of rule) (counts_in r)
  is_bounded (stopped refusal e) = record { u_bound = omega arith; w_bound = omega arith; p_bound = omega arith; t_bound = omega arith }
  is_bounded (walked m) =
      let (_, _, k) = ready m in
      let b = walk_bounds (model_bounded k) (rule_small k) (model_numbered k) (rule_numbered k) S P in
      rw (counts_are S P counts verdict) (record { u_bound = b.u_bound; w_bound = b.w_bound; p_bound = b.p_bound; t_bound = b.t_bound })

  -- where the walk is made, both are the walk's
  pub made_by : {r : Answer} {new : Buffers} → goes → Outcome r new → (r ≡ answer_by S P counts verdict) × (new ≡ left_by walk P old)
  made_by m (stopped refusal e) = absurd cc
  made_by m (walked _) = (refl, refl)

  is_roomy : {r : Answer} {new : Buffers} → goes → Outcome r new → states_of model * 2 ^ states_of rule ≤ S → states_of model * 3 ^ (states_of rule * states_of rule) ≤ P → number_of r ≡ 0
  is_roomy m o h l =
      let (_, _, k) = ready m in
      rw (made_by m o).0 ((zero_decided S P counts verdict).1 (walk_decided (model_bounded k) (rule_small k) (model_numbered k) (rule_numbered k) S P h l))

  is_short : {r : Answer} {new : Buffers} → goes → Outcome r new
      → Lacking (unhindered (spelled model) (spelled rule) (states_of model) (states_of rule)) (visited (spelled model) (spelled rule) (states_of model) (states_of rule)) S P r
  is_short m o =
      let (_, _, k) = ready m in
      let s = short (model_bounded k) (rule_small k) (model_numbered k) (rule_numbered k) S P in
      let in_u = eight_stems S P counts 0 verdict in
      let in_w = eight_stems S P counts 1 verdict in
      let in_periods = nine_periods S P counts verdict in
      rw (made_by m o).0 (record {
        in_u = (λ h. s.of_u.0 (in_u.0 h), λ h. in_u.1 (s.of_u.1 h));
        in_w = (λ h. s.of_w.0 (in_w.0 h), λ h. in_w.1 (s.of_w.1 h));
        in_periods = rw (counts_are S P counts verdict) (λ h. s.of_periods.0 (in_periods.0 h), λ h. in_periods.1 (s.of_periods.1 h));
      })

  is_filled : {r : Answer} {new : Buffers} → Outcome r new → Filled S P r
  unfolding numbers_of
  is_filled (stopped refusal e) =
      let low = stop_number model rule S P old e in
      record { in_u = λ h. absurd (omega arith); in_w = λ h. absurd (omega arith); in_periods = λ h. absurd (omega arith) }
  is_filled (walked m) =
      let counts-is = counts_are S P counts verdict in
      let full = walk_filled (spelled model) (spelled rule) S P in
      record {
        in_u = λ h. let (u, w, p, t) = full.in_u ((eight_stems S P counts 0 verdict).0 h) in rw (counts-is, u, w, p, t);
        in_w = λ h. let (w, p, t) = full.in_w ((eight_stems S P counts 1 verdict).0 h) in rw (counts-is, w, p, t);
        in_periods = λ h. rw counts-is (full.in_periods ((nine_periods S P counts verdict).0 h));
      }

  is_tabled : goes → Tabled (spelled model) (spelled rule) (states_of model) (states_of rule) P walk.largest
  is_tabled m = let (_, _, k) = ready m in record { each = walk_tables (model_bounded k) (rule_small k) (model_numbered k) (rule_numbered k) S P }

  -- the contract, from its two equations
  pub demands : {r : Answer} {new : Buffers} → r ≡ decided model rule S P old → new ≡ left model rule S P old → Decided model rule S P old r new
  demands {r} {new} e f =
      let o : Outcome r new = rw (e, f) outcome in
      record {
        answer = e;
        buffers = f;
        shown = is_shown o;
        included = is_included o;
        roomy = λ m. is_roomy m o;
        bounds = is_bounded o;
        tables = is_tabled;
        short = λ m. is_short m o;
        filled = is_filled o;
      }
