-- How large the walk's counts can be: t ≤ u · w · p, the tables' bounds by the numbers of states, and so how much room is enough for a verdict.
-- Assumes nothing.
use mathlib.Core.Path.{◌≡◌, refl, sym}
use mathlib.Core.Bool.{true, false, ◌&&◌}
use mathlib.Core.List.{List, [], Memᴰ}
use Prim.Native.Nat.{ℕ, ◌+◌, ◌*◌, ◌^◌, ◌≤◌}
use native.Mathlib.Nat.{le_refl, le_trans, mul-le-mul, suc-mul, mul_assoc, mul_comm}
use native.Mathlib.Omega.{arith}
use borrow.Author.Tests.{eqb-true}
use lib.ListN.{length, get_or, length-map}
use lib.Dec.{eqb}
use Rattle.bits.specs.Fields.{stem_state, stem_target, link_state}
use Rattle.bits.proofs.Truth.{and_right}
use Rattle.acceptance.specs.Lasso.{Aut}
use Rattle.acceptance.specs.Contexts.{Small}
use Rattle.growth.specs.Grow.{ended, Complete}
use Rattle.growth.specs.Numbered.{Bounded, Numbered}
use Rattle.growth.specs.Tables.{members}
use Rattle.growth.specs.Steps.{steps}
use Rattle.growth.proofs.Steps.{steps_mem, steps_length, column_length}
use Rattle.stems.proofs.Packed.{stem_bound, stem_enough}
use Rattle.covering.specs.Entries.{Period, links_of, contexts_of}
use Rattle.periods.specs.Periods.{period_table}
use Rattle.periods.proofs.Packed.{period_bound, period_bound_all, period_enough}
use Rattle.walk.specs.Walk.{Finish, Walked, fits, search_round, opening, round_at, rounds_at, rounds, pairs_of, accepts, walk}
use Rattle.walk.proofs.Runs.{decided, made, searched, searched_made, Ran, done, lacking, going, found, Walks, u_full, w_full, ran, walks}
use Rattle.walk.proofs.Rounds.{table_w, table_v, round_of, round_reached, round_rows}

-- the counts of automata with a and b states, whatever the room
pub record Bounds (a b : ℕ) (r : Walked) : Type 0 where
  pub u_bound : length r.smallest ≤ a * 2 ^ b
  pub w_bound : length r.largest ≤ a * 2 ^ b
  pub p_bound : r.finish.periods ≤ a * 3 ^ (b * b)
  pub t_bound : r.finish.tests ≤ length r.smallest * length r.largest * r.finish.periods

-- ---- t ≤ u · w · p

-- one round makes at most u · p tests
pub round_tests : (u : List ℕ) (c : ℕ × ℕ) (v : List Period) (t p : ℕ) → length v ≤ p → made (search_round u c v t) ≤ t + length u * p
unfolding pairs_of
round_tests u c v t p l =
    let low : length (links_of v) ≤ p = omega (arith, length-map v (λ (q : Period). q.link)) in
    omega (
      arith,
      searched_made _ (searched (accepts u (contexts_of v)) (pairs_of u c.0 c.1 (links_of v)) t refl),
      steps_length {E = ℕ × ℕ} (length u) (length (links_of v)) (λ i j. fits c.0 c.1 (get_or u i 0) && eqb (link_state (get_or (links_of v) j 0)) c.0) (λ i j. (i, j)),
      mul-le-mul (le_refl (length u)) low,
    )

module _ {A B : Aut} {u : List ℕ} where
  ran_periods : {room : ℕ} {cs : List (ℕ × ℕ)} {p t : ℕ} {o : Finish} → Ran A B u room cs p t o → p ≤ o.periods
  ran_periods {p = p} done = le_refl p
  ran_periods (lacking v e) = omega arith
  ran_periods (going v e s r) = omega (arith, ran_periods r)
  ran_periods (found v e s) = omega arith

  -- rounds of at most m tests each
  pub ran_made : {room : ℕ} {cs : List (ℕ × ℕ)} {p t : ℕ} {o : Finish} → Ran A B u room cs p t o → (m : ℕ)
      → ((c : ℕ × ℕ) (v : List Period) (t : ℕ) → period_table A B c.0 c.1 room ≡ ended v → length v ≤ o.periods → made (search_round u c v t) ≤ t + m)
      → o.tests ≤ t + length cs * m
  ran_made done m h = omega arith
  ran_made (lacking v e) m h = omega arith
  ran_made (going {c = c} {cs = cs} {t = t} v e s r) m h = omega (arith, ran_made r m h, rw s at (h c v t e (omega (arith, ran_periods r))), suc-mul (length cs) m)
  ran_made (found {c = c} {cs = cs} {t = t} v e s) m h = omega (arith, rw s at (h c v t e (omega arith)), suc-mul (length cs) m)

  ran_tests : {room : ℕ} {cs : List (ℕ × ℕ)} {p t : ℕ} {o : Finish} → Ran A B u room cs p t o → o.tests ≤ t + length cs * (length u * o.periods)
  ran_tests {o = o} r = ran_made r (length u * o.periods) (λ c v t e l. round_tests u c v t o.periods l)

-- each entry of W is at one state
rounds_length : (A B : Aut) (w : List ℕ) → length (rounds A B w) ≤ length w
unfolding rounds rounds_at round_at steps
rounds_length A B w =
    column_length 16 (length w) (λ s k. opening A s && eqb (stem_state (get_or w k 0)) s) (λ k. stem_state (get_or w k 0)) (λ s k. (s, stem_target (get_or w k 0)))
    (λ s k t. sym (eqb-true (stem_state (get_or w k 0)) s (and_right (opening A s) (eqb (stem_state (get_or w k 0)) s) t)))

no_rounds : (A B : Aut) {c : ℕ × ℕ} → Memᴰ c (rounds A B []) → ⊥
unfolding rounds rounds_at round_at steps
no_rounds A B m =
    let (_, _, _, l, _, _) = steps_mem 16 0 (λ s k. opening A s && eqb (stem_state 0) s) (λ s k. (s, stem_target 0)) m in
    omega arith

-- in all cases
pub walk_tests : (A B : Aut) (S P : ℕ) → let r = walk A B S P in r.finish.tests ≤ length r.smallest * length r.largest * r.finish.periods
walk_tests A B S P = at (walks A B S P)
  where
    at : {r : Walked} → Walks A B S P r → r.finish.tests ≤ length r.smallest * length r.largest * r.finish.periods
    at (u_full u e) = omega arith
    at (w_full u w e f) = omega arith
    at (ran u w {o} e f h) =
        omega (arith, ran_tests h, mul-le-mul (rounds_length A B w) (le_refl (length u * o.periods)), mul_assoc (length w) (length u) o.periods, mul_comm (length w) (length u))

-- ---- by the numbers of states

module _ {A B : Aut} {u : List ℕ} {room : ℕ} where
  -- every table is held by K
  ran_held : {K : ℕ} {cs : List (ℕ × ℕ)} {p t : ℕ} {o : Finish} → Ran A B u room cs p t o → ((c : ℕ × ℕ) → Memᴰ c cs → length (table_v A B room c.0 c.1) ≤ K) → p ≤ K → o.periods ≤ K
  ran_held done h l = l
  ran_held (lacking {c = c} v e) h l = omega (arith, rw e at (h c (Memᴰ.head refl)))
  ran_held (going {c = c} v e s r) h l = ran_held r (λ d m. h d (Memᴰ.tail m)) (omega (arith, rw e at (h c (Memᴰ.head refl))))
  ran_held (found {c = c} v e s) h l = omega (arith, rw e at (h c (Memᴰ.head refl)))

  -- no table lacks room
  ran_decided : {cs : List (ℕ × ℕ)} {p t : ℕ} {o : Finish} → Ran A B u room cs p t o → ((c : ℕ × ℕ) → Memᴰ c cs → Complete (period_table A B c.0 c.1 room)) → decided o.verdict ≡ true
  ran_decided done h = refl
  ran_decided (lacking {c = c} v e) h = let f = h c (Memᴰ.head refl) in absurd cc
  ran_decided (going v e s r) h = ran_decided r (λ d m. h d (Memᴰ.tail m))
  ran_decided (found v e s) h = refl

module _ {A B : Aut} (bound : Bounded 16 16 A) (small : Small 8 B) {a b : ℕ} (by-a : Numbered a A) (by-b : Numbered b B) (S P : ℕ) where
  -- with k members of w's target at most a · 3 ^ (k · b) entries
  table_bound : {c : ℕ × ℕ} → Memᴰ c (rounds A B (table_w A B S)) → length (table_v A B P c.0 c.1) ≤ a * 3 ^ (length (members 8 c.1) * b)
  table_bound m = let r = round_of bound small S m in period_bound bound small by-a by-b (round_reached bound small S r) (round_rows bound small S r) P

  all_rows : {c : ℕ × ℕ} → Memᴰ c (rounds A B (table_w A B S)) → a * 3 ^ (length (members 8 c.1) * b) ≤ a * 3 ^ (b * b)
  all_rows m = let r = round_of bound small S m in period_bound_all bound small by-a by-b (round_reached bound small S r) (round_rows bound small S r) P

  table_bound_all : {c : ℕ × ℕ} → Memᴰ c (rounds A B (table_w A B S)) → length (table_v A B P c.0 c.1) ≤ a * 3 ^ (b * b)
  table_bound_all m = le_trans (table_bound m) (all_rows m)

  table_enough : a * 3 ^ (b * b) ≤ P → {c : ℕ × ℕ} → Memᴰ c (rounds A B (table_w A B S)) → Complete (period_table A B c.0 c.1 P)
  table_enough l m = let r = round_of bound small S m in period_enough bound small by-a by-b (round_reached bound small S r) (round_rows bound small S r) P (le_trans (all_rows m) l)

  pub walk_bounds : Bounds a b (walk A B S P)
  walk_bounds = record { u_bound = counts.0; w_bound = counts.1; p_bound = counts.2; t_bound = walk_tests A B S P }
    where
      at : {r : Walked} → Walks A B S P r → (length r.smallest ≤ a * 2 ^ b) × (length r.largest ≤ a * 2 ^ b) × (r.finish.periods ≤ a * 3 ^ (b * b))
      at (u_full u e) = (rw e at (stem_bound bound small false S by-a by-b), omega arith, omega arith)
      at (w_full u w e f) = (rw e at (stem_bound bound small false S by-a by-b), rw f at (stem_bound bound small true S by-a by-b), omega arith)
      at (ran u w e f h) = (
        rw e at (stem_bound bound small false S by-a by-b),
        rw f at (stem_bound bound small true S by-a by-b),
        ran_held h (λ c m. table_bound_all (rw f m)) (omega arith),
      )

      counts : (length (walk A B S P).smallest ≤ a * 2 ^ b) × (length (walk A B S P).largest ≤ a * 2 ^ b) × ((walk A B S P).finish.periods ≤ a * 3 ^ (b * b))
      counts = at (walks A B S P)

  -- each period table, of each entry of W
  pub walk_tables : (c : ℕ × ℕ) → Memᴰ c (rounds A B (walk A B S P).largest) → length (table_v A B P c.0 c.1) ≤ a * 3 ^ (length (members 8 c.1) * b)
  walk_tables = at (walks A B S P)
    where
      at : {r : Walked} → Walks A B S P r → (c : ℕ × ℕ) → Memᴰ c (rounds A B r.largest) → length (table_v A B P c.0 c.1) ≤ a * 3 ^ (length (members 8 c.1) * b)
      at (u_full u e) c m = absurd (no_rounds A B m)
      at (w_full u w e f) c m = table_bound (rw f m)
      at (ran u w e f h) c m = table_bound (rw f m)

  -- that much room is enough for a verdict
  pub walk_decided : a * 2 ^ b ≤ S → a * 3 ^ (b * b) ≤ P → decided (walk A B S P).finish.verdict ≡ true
  walk_decided l k = at (walks A B S P)
    where
      at : {r : Walked} → Walks A B S P r → decided r.finish.verdict ≡ true
      at (u_full u e) = let c = stem_enough bound small false S by-a by-b l in absurd cc
      at (w_full u w e f) = let c = stem_enough bound small true S by-a by-b l in absurd cc
      at (ran u w e f h) = ran_decided h (λ c m. table_enough k (rw f m))
