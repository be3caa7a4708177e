-- One round: the period table that was grown afresh in the lent tables, and what its lassos give. Assumes nothing.
use mathlib.Core.Path.{◌≡◌, refl, sym, ap, ap₂, ◌∙◌}
use mathlib.Core.List.{List, [], ◌∷◌}
use Prim.Native.Nat.{ℕ, ◌*◌, max, ◌≤◌}
use native.Mathlib.Omega.{arith}
use Rattle.std.specs.Prelude.{Result, Ok, Err}
use Rattle.std.proofs.Common.{Fits, w64}
use lib.ListN.{length, take, length-map}
use Rattle.acceptance.specs.Lasso.{Aut}
use Rattle.growth.specs.Grow.{Outcome, ended, entries}
use Rattle.growth.specs.declared.Full.{Full}
use Rattle.growth.proofs.Offering.{ended_is, full_is, take_over}
use Rattle.covering.specs.Entries.{Period, links_of, contexts_of}
use Rattle.periods.specs.Periods.{period_table}
use Rattle.offering.specs.Lent.{Leaves}
use Rattle.covering.proofs.Entries.{contexts_length}
use Rattle.rounds.specs.declared.Stop.TheVariants.{Lacking}
use Rattle.walk.specs.Words.{stem_word, period_word}
use Rattle.walk.specs.Walk.{shown, periods_full, Search, passed, rejected, search, pairs_of, accepts, search_round}
use Rattle.walk.proofs.Runs.{done, lacking, going, found, run_is}
use Rattle.lassos.specs.declared.Rejected.{Rejected}
use Rattle.lassos.specs.Pairs.{found_of, Few}
use Rattle.rounds.specs.declared.Lent.{Lent}
use Rattle.rounds.specs.Finished.{Finished}
use Rattle.rounds.specs.Round.{answered, Ready}
use Rattle.walk.proofs.Cut.{periods}
use Rattle.rounds.proofs.Legible.{through_legible, lacking_legible, found_legible}

-- ---- the parts that hold the entries

-- n entries: the links and the contexts are exactly the first of what was lent
record Holds (v : List Period) (n : ℕ) (links contexts : List ℕ) : Type 0 where
  pub count : length v ≡ n
  pub links_part : take n links ≡ links_of v
  pub contexts_part : take (2 * n) contexts ≡ contexts_of v

holds : (o : Outcome Period) {n : ℕ} {links₀ links contexts₀ contexts : List ℕ} → Leaves o (Ok n) links₀ links contexts₀ contexts
    → (o ≡ ended (entries o)) × Holds (entries o) n links contexts
holds o {n} {links₀ = links₀} {contexts₀ = contexts₀} h =
    let (is, count) = ended_is o h.answer in
    let long : n ≡ length (links_of (entries o)) = omega (arith, length-map (entries o) (λ (p : Period). p.link)) in
    let wide : 2 * n ≡ length (contexts_of (entries o)) = omega (arith, contexts_length (entries o)) in (
      is,
      record {
        count = count;
        links_part = ap₂ (λ (k : ℕ) (l : List ℕ). take k l) long h.links_left ∙ take_over (links_of (entries o)) links₀;
        contexts_part = ap₂ (λ (k : ℕ) (l : List ℕ). take k l) wide h.contexts_left ∙ take_over (contexts_of (entries o)) contexts₀;
      },
    )

module _ (A B : Aut) (room s rows : ℕ) {links₀ links contexts₀ contexts : List ℕ} where
  -- ---- it ended with n entries

  module _ {n : ℕ} (h : Leaves (period_table A B s rows room) (Ok n) links₀ links contexts₀ contexts) where
    abbrev v : List Period
    v = entries (period_table A B s rows room)

    is : period_table A B s rows room ≡ ended v
    is = (holds (period_table A B s rows room) h).0

    held : Holds v n links contexts
    held = (holds (period_table A B s rows room) h).1

    table_within : n ≤ room
    table_within = omega (arith, held.count, (periods A B s rows).within room)

    pub links_long : n ≡ length (take n links)
    links_long = omega (arith, held.count, ap length held.links_part, length-map v (λ (q : Period). q.link))

    pub contexts_long : 2 * n ≡ length (take (2 * n) contexts)
    contexts_long = omega (arith, held.count, ap length held.contexts_part, contexts_length v)

    pub contexts_fit : 2 * length (take n links) ≤ length (take (2 * n) contexts)
    contexts_fit = omega (arith, links_long, contexts_long)

    pub twice_fits : room ≤ 65535 → Fits w64 (2 * n)
    twice_fits short = let low = table_within in omega arith

    -- and the lassos can be tested
    pub few : {u scratch : List ℕ} {t : ℕ} {lent : Lent} → Ready room t u lent → length scratch ≡ length lent.scratch.now → Few u (take n links) scratch t
    few ready same =
        let low = table_within in
        let long = links_long in
        record { stems = ready.stems; periods = omega (arith, ready.short); sets_fit = omega (arith, ready.scratch_fits); tests = ready.few }

    kept : take (length v) links ≡ links_of v
    kept = ap (λ (k : ℕ). take k links) held.count ∙ held.links_part

    -- one round, and what it answers
    pub ended_ran : (u : List ℕ) (p t : ℕ) → room ≤ 65535 → {r : Result ℕ Rejected} → r ≡ found_of (search (accepts u (take (2 * n) contexts)) (pairs_of u s rows (take n links)) t)
        → Finished A B u room ((s, rows) ∷ []) p t (answered n p r) links
    ended_ran u p t short {r} e =
        at (search_round u (s, rows) v t) refl (ap₂ (λ (k : ℕ) (f : Result ℕ Rejected). answered k p f) (sym held.count)
        (e ∙ ap₂ (λ (l c : List ℕ). found_of (search (accepts u c) (pairs_of u s rows l) t)) held.links_part held.contexts_part))
      where
        at : (o : Search) → search_round u (s, rows) v t ≡ o → answered n p r ≡ answered (length v) p (found_of o) → Finished A B u room ((s, rows) ∷ []) p t (answered n p r) links
        at (passed k) f same = rw same (record { finish = run_is (going v is f done); legible = through_legible })
        at (rejected k i j) f same =
            rw same
            (record {
              finish = run_is (found v is f) ∙ ap (λ (l : List ℕ). record { verdict = shown (stem_word u i) (period_word l j); periods = max p (length v); tests = k }) (sym kept);
              legible = found_legible A B room s rows short is u t f kept;
            })

  -- ---- it lacks room

  pub full_ran : (u : List ℕ) (p t : ℕ) {e : Full} → Leaves (period_table A B s rows room) (Err e) links₀ links contexts₀ contexts → {m : ℕ} → m ≡ max p room
      → Finished A B u room ((s, rows) ∷ []) p t (Err (Lacking (record { p = m; t = t }))) links
  full_ran u p t h {m} same =
      let is = full_is (period_table A B s rows room) h.answer in
      let most : max p (length (entries (period_table A B s rows room))) ≡ m = ap (max p) ((periods A B s rows).filled room _ is) ∙ sym same in
      record { finish = run_is (lacking _ is) ∙ ap (λ (k : ℕ). record { verdict = periods_full; periods = k; tests = t }) most; legible = lacking_legible }
