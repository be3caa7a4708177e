-- The verdicts are right: where none is rejected, B accepts every lasso that A accepts; a lasso that is shown is one that A accepts and B does not.
-- Assumes nothing.
use mathlib.Core.Path.{◌≡◌, refl, sym, ap, ◌∙◌, subst}
use mathlib.Core.Bool.{true, false, true≢false}
use mathlib.Core.List.Memᴰ
use mathlib.Core.List.{List, Memᴰ}
use Prim.Native.Nat.{ℕ, ◌≤◌}
use Rattle.acceptance.specs.Lasso.{Word, Aut, Included, Shown}
use Rattle.acceptance.specs.Contexts.{Small}
use Rattle.growth.specs.Grow.{ended, Complete}
use Rattle.growth.specs.Numbered.{Bounded}
use Rattle.growth.proofs.Inclusion as inclusion
use Rattle.stems.specs.Stems.{target_covers, stem_table}
use Rattle.stems.proofs.Packed.{stem_complete}
use Rattle.covering.specs.Entries.{Period, links_of, contexts_of}
use Rattle.periods.specs.Periods.{period_table}
use Rattle.periods.proofs.Packed.{period_complete}
use Rattle.walk.specs.Words.{stem_word, period_word}
use Rattle.walk.specs.Walk.{included, shown, Finish, rounds, pairs_of, accepts, walk, passed, rejected}
use Rattle.walk.proofs.Runs.{decided, Searched, all_pass, one_fails, searched, Ran, done, lacking, going, found, walks, whole}
use Rattle.walk.proofs.Rounds.{table_u, table_v, table_w, round_of, round_mem}
use Rattle.walk.proofs.Tests.{judged, test_round, test_pair, pair_test, pair_judged}

-- ---- what a verdict says of the rounds

-- the round's table ended and its tests were passed
record Passed (A B : Aut) (u : List ℕ) (room : ℕ) (c : ℕ × ℕ) : Type 0 where
  ends : Complete (period_table A B c.0 c.1 room)
  all : (d : ℕ × ℕ) → Memᴰ d (pairs_of u c.0 c.1 (links_of (table_v A B room c.0 c.1))) → accepts u (contexts_of (table_v A B room c.0 c.1)) d.0 d.1 ≡ true

-- a rejected pair of the round is shown
record Shows (A B : Aut) (u : List ℕ) (room : ℕ) (c : ℕ × ℕ) : Type 0 where
  shows : (i j : ℕ) → Memᴰ (i, j) (pairs_of u c.0 c.1 (links_of (table_v A B room c.0 c.1))) → accepts u (contexts_of (table_v A B room c.0 c.1)) i j ≡ false
      → Shown A B (stem_word u i) (period_word (links_of (table_v A B room c.0 c.1)) j)

module _ {A B : Aut} {u : List ℕ} {room : ℕ} where
  passes : (c : ℕ × ℕ) {v : List Period} {t k : ℕ} → period_table A B c.0 c.1 room ≡ ended v → Searched (accepts u (contexts_of v)) (pairs_of u c.0 c.1 (links_of v)) t (passed k) → Passed A B u room c
  passes c e (all_pass k n h) = record { ends = rw e; all = rw e h }

  ran_included : {cs : List (ℕ × ℕ)} {p t : ℕ} {o : Finish} → Ran A B u room cs p t o → o.verdict ≡ included → (c : ℕ × ℕ) → Memᴰ c cs → Passed A B u room c
  ran_included done q c m = absurd (Memᴰ.not-nil m)
  ran_included (lacking v e) q c m = absurd cc
  ran_included (going {c = d} v e s r) q c (Memᴰ.head same) = rw same (passes d e (searched _ _ _ s))
  ran_included (going v e s r) q c (Memᴰ.tail m) = ran_included r q c m
  ran_included (found v e s) q c m = absurd cc

  rejects : (c : ℕ × ℕ) {v : List Period} {t k i j : ℕ} → period_table A B c.0 c.1 room ≡ ended v
      → Searched (accepts u (contexts_of v)) (pairs_of u c.0 c.1 (links_of v)) t (rejected k i j) → Shows A B u room c → Shown A B (stem_word u i) (period_word (links_of v) j)
  rejects c {i = i} {j = j} e (one_fails k i' j' l n m f) h = rw e at (h.shows i j (rw e m) (rw e f))

  ran_shown : {cs : List (ℕ × ℕ)} {p t : ℕ} {o : Finish} {x y : Word} → Ran A B u room cs p t o → ((c : ℕ × ℕ) → Memᴰ c cs → Shows A B u room c) → o.verdict ≡ shown x y → Shown A B x y
  ran_shown done h q = absurd cc
  ran_shown (lacking v e) h q = absurd cc
  ran_shown (going v e s r) h q = ran_shown r (λ c m. h c (Memᴰ.tail m)) q
  ran_shown {x = x} {y = y} (found {c = c} {i = i} {j = j} v e s) h q =
      let stem : stem_word u i ≡ x = cc in
      let period : period_word (links_of v) j ≡ y = cc in
      rw (← stem, ← period) (rejects c e (searched _ _ _ s) (h c (Memᴰ.head refl)))

-- ---- of the walk

module _ {A B : Aut} (bound : Bounded 16 16 A) (small : Small 8 B) (S P : ℕ) where
  module _ (u_ends : Complete (stem_table A B false S)) (w_ends : Complete (stem_table A B true S)) (rounds-pass : (c : ℕ × ℕ) → Memᴰ c (rounds A B (table_w A B S)) → Passed A B (table_u A B S) P c) where
    walked : inclusion.Walked 16 16 8 A B S P
    unfolding target_covers
    walked = record {
      smallest_complete = stem_complete bound small false S u_ends;
      largest_complete = stem_complete bound small true S w_ends;
      periods_complete = λ {s = s} e o. period_complete A B s e.node.load P (rounds-pass (s, e.node.load) (round_mem bound small S e.stands e.at_state o)).ends;
    }

    none_rejected : Included A B
    none_rejected = inclusion.included bound small S P walked (λ u v t.
        (judged bound small S P t).0 ((rounds-pass _ (test_round bound small S P t)).all _ (test_pair bound small S P t)))

  pub walk_included : (walk A B S P).finish.verdict ≡ included → Included A B
  walk_included q =
      let h = whole (walks A B S P) (ap decided q) in
      none_rejected (rw h.u_ends) (rw h.w_ends) (rw (h.u_ends, h.w_ends) (ran_included h.rounds_ran q))

  pair_shown : S ≤ 4096 → P ≤ 65535 → (c : ℕ × ℕ) → Memᴰ c (rounds A B (table_w A B S)) → Shows A B (table_u A B S) P c
  pair_shown few short c m =
      let r = round_of bound small S m in
      subst (λ (rows : ℕ). Shows A B (table_u A B S) P (c.0, rows)) r.load (record {
        shows = λ i j pair fails.
            let (by_model, long) = inclusion.shown bound small S P (pair_test bound small S P few short r.stands r.state pair) in
            record {
              some_letter = long;
              by_model = by_model;
              not_by_rule = λ a. true≢false (sym ((pair_judged bound small S P few short r.stands r.state pair).1 a) ∙ fails);
            };
      })

  pub walk_shown : S ≤ 4096 → P ≤ 65535 → {u v : Word} → (walk A B S P).finish.verdict ≡ shown u v → Shown A B u v
  walk_shown few short q =
      let h = whole (walks A B S P) (ap decided q) in
      ran_shown h.rounds_ran (rw (h.u_ends, h.w_ends) at (pair_shown few short)) q
