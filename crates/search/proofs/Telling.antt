-- How the walk ends, from what the two stem tables and the rounds answer. Assumes nothing.
use mathlib.Core.Path.{◌≡◌, refl, sym, ap, ◌∙◌}
use mathlib.Core.Logic.{inr}
use mathlib.Core.Bool.{Bool, true, false}
use mathlib.Core.List.{List, ◌++◌}
use Rattle.std.specs.Prelude.{Result, Ok, Err}
use Rattle.std.proofs.lemmas.Slice.{drop-append-drop}
use Prim.Native.Nat.{ℕ, ◌*◌, ◌≤◌}
use native.Mathlib.Omega.{arith}
use borrow.Author.Tests.{eqb-false}
use lib.ListN.{length, take, drop, length-append, length-drop}
use Rattle.acceptance.specs.Lasso.{Aut}
use Rattle.growth.specs.Grow.{ended, entries}
use Rattle.growth.specs.Lent.{over}
use Rattle.growth.specs.declared.Full.{Full}
use Rattle.growth.proofs.Offering.{ended_is, full_is, take_over}
use Rattle.stems.specs.Stems.{stem_table}
use Rattle.stems.specs.Held.{Held}
use Rattle.stems.proofs.Parents.{stem_parents}
use Rattle.walk.specs.Walk.{Finish, rounds, run, walk}
use Rattle.spelling.specs.Written.{Backward}
use Rattle.rounds.specs.declared.Tally.{Tally}
use Rattle.rounds.specs.declared.Stop.{Stop}
use lib.Seq.{length-take-le}
use Rattle.rounds.specs.Finished.{Legible}
use Rattle.search.specs.declared.Ending.{Ending}
use Rattle.search.specs.declared.Ending.TheVariants.{StemsFull}
use Rattle.search.specs.Ending.{ending_by, stem_shown, period_shown, Buffers}
use Rattle.search.specs.Contract.{Kept, Prepared, Told, Showable, Shows}
use Rattle.walk.proofs.Runs.{u_full, w_full, ran, runs, walk_is}
use Rattle.walk.proofs.Cut.{stems}

-- ---- a stem table that was grown

module _ (A B : Aut) (S : ℕ) where
  -- n entries, which are its first elements
  pub record There (largest : Bool) (table : List ℕ) (n : ℕ) : Type 0 where
    pub is_ended : stem_table A B largest S ≡ ended (entries (stem_table A B largest S))
    pub part : take n table ≡ entries (stem_table A B largest S)
    pub count : length (take n table) ≡ n
    pub within : n ≤ S

  pub there : (largest : Bool) {old new : List ℕ} {n : ℕ} → Held (stem_table A B largest S) old new (Ok n) → There largest new n
  there largest {old} {new} {n} h =
      let (is, count) = ended_is (stem_table A B largest S) h.answer in
      let part : take n new ≡ entries (stem_table A B largest S) = rw (h.holds, ← count) (take_over (entries (stem_table A B largest S)) old) in
      record { is_ended = is; part = part; count = ap length part ∙ count; within = omega (arith, (stems A B largest).within S) }

module _ {A B : Aut} {S P : ℕ} {lent : Buffers} (ready : Prepared A B S P lent) where
  -- parents come before their children
  stems_back : {old new : List ℕ} {n : ℕ} → Held (stem_table A B false S) old new (Ok n) → Backward false (take n new)
  stems_back {new = new} {n} h =
      let u = there A B S false h in
      rw u.part (record {
        short = omega (arith, ap length u.part, ready.enough.few_stems);
        parents = λ i l e. let z = eqb-false i 0 e in inr (stem_parents ready.bounded ready.small false S i (omega arith) l);
      })

  -- the lasso that the rounds may find can be shown
  pub showable : {old smallest links : List ℕ} {n : ℕ} {r : Result Tally Stop} → Held (stem_table A B false S) old smallest (Ok n) → Legible P (take n smallest) links r
      → length links ≡ length (take P lent.links) → Showable (take n smallest) links lent.stem lent.period r
  showable h legible e =
      let u = there A B S false h in
      let long = length-take-le P lent.links ready.enough.links_fit in
      record {
        room = P;
        legible = legible;
        stems_back = stems_back h;
        stem_fits = omega (arith, ready.enough.stem_fits);
        links_fit = omega arith;
        period_fits = ready.enough.period_fits;
      }

-- the first n numbers, lent by themselves
pub part_kept : {n : ℕ} {old : List ℕ} (part : List ℕ) → n ≤ length old → length part ≡ length (take n old) → Kept n old (part ++ drop n old)
part_kept {n} {old} part l e =
    let long = e ∙ length-take-le n old l in
    record { long = simp (length-append, length-drop) (omega arith); beyond = drop-append-drop n old part n (omega arith) long }

-- ---- what the walk leaves

module _ (A B : Aut) (S P : ℕ) {old : Buffers} {smallest : List ℕ} where
  -- U lacks room
  pub told_u : {err : Full} {e : Ending} → Held (stem_table A B false S) old.smallest smallest (Err err) → e ≡ StemsFull 0 (record { u = S; w = 0; p = 0; t = 0 })
      → Told (walk A B S P) P old (record { smallest = smallest; largest = old.largest; links = old.links; contexts = old.contexts; stem = old.stem; period = old.period }) e
  unfolding ending_by over stem_shown period_shown
  told_u hu is =
      let full = full_is (stem_table A B false S) hu.answer in
      let count = (stems A B false).filled S _ full in
      rw (walk_is (u_full _ full), is)
      (record {
        answer = cc;
        smallest_left = hu.holds;
        largest_left = refl;
        links_kept = record { long = refl; beyond = refl };
        contexts_kept = record { long = refl; beyond = refl };
        stem_left = refl;
        period_left = refl;
      })

  -- W does
  pub told_w : {err : Full} {u : ℕ} {largest : List ℕ} {e : Ending} → Held (stem_table A B false S) old.smallest smallest (Ok u) → Held (stem_table A B true S) old.largest largest (Err err)
      → e ≡ StemsFull 1 (record { u = u; w = S; p = 0; t = 0 })
      → Told (walk A B S P) P old (record { smallest = smallest; largest = largest; links = old.links; contexts = old.contexts; stem = old.stem; period = old.period }) e
  unfolding ending_by over stem_shown period_shown
  told_w hu hw is =
      let u = there A B S false hu in
      let full = full_is (stem_table A B true S) hw.answer in
      let count = (stems A B true).filled S _ full in
      rw (walk_is (w_full _ _ u.is_ended full), is)
      (record {
        answer = cc;
        smallest_left = hu.holds;
        largest_left = hw.holds;
        links_kept = record { long = refl; beyond = refl };
        contexts_kept = record { long = refl; beyond = refl };
        stem_left = refl;
        period_left = refl;
      })

  -- the rounds are made
  pub told_rounds : {u w : ℕ} {largest links contexts stem period : List ℕ} {f : Finish} {e : Ending}
      → Held (stem_table A B false S) old.smallest smallest (Ok u) → Held (stem_table A B true S) old.largest largest (Ok w)
      → Kept P old.links links → Kept (2 * P) old.contexts contexts
      → run A B (take u smallest) P (rounds A B (take w largest)) 0 0 ≡ f → Shows (length (take u smallest)) w f old.stem stem old.period period e
      → Told (walk A B S P) P old (record {
        smallest = smallest;
        largest = largest;
        links = links;
        contexts = contexts;
        stem = stem;
        period = period;
      }) e
  told_rounds hu hw links contexts ran_to s =
      let u = there A B S false hu in
      let w = there A B S true hw in
      let w_count : length (entries (stem_table A B true S)) ≡ _ = ap length (sym w.part) ∙ w.count in
      let ran_to = rw (u.part, w.part) at ran_to in
      let s = rw (u.part, ← w_count) at s in
      rw (walk_is (ran _ _ u.is_ended w.is_ended (runs A B _ P _ 0 0)), ran_to)
      (record {
        answer = s.answer;
        smallest_left = hu.holds;
        largest_left = hw.holds;
        links_kept = links;
        contexts_kept = contexts;
        stem_left = s.stem_left;
        period_left = s.period_left;
      })
