-- What the room does to the walk: one that gives a verdict is the same with more room, and one with any room stops exactly where the walk without
-- room needs more. Assumes nothing.
use mathlib.Core.Path.{◌≡◌, refl, sym, ap, ◌∙◌}
use mathlib.Core.Logic.{◌↔◌}
use mathlib.Core.Bool.{true, false, true≢false}
use mathlib.Core.Option.{some}
use mathlib.Core.List.{List}
use Prim.Native.Nat.{ℕ, ◌*◌, ◌^◌, ◌≤◌, ◌<◌, max}
use native.Mathlib.Nat.{le_refl}
use native.Mathlib.Decide.{dec_le}
use native.Mathlib.Omega.{arith}
use lib.ListN.{length}
use Rattle.acceptance.specs.Lasso.{Aut}
use Rattle.acceptance.specs.Contexts.{Small}
use Rattle.growth.specs.Numbered.{Bounded, Numbered}
use Rattle.walk.specs.Walk.{stems_full, periods_full, Finish, Walked, rounds, walk, unhindered}
use Rattle.walk.specs.Room.{Visit, visits, visited, stops_at}
use Rattle.walk.proofs.Runs.{decided, runs, Walks, u_full, w_full, ran, walks, walk_is, Whole, whole}
use Rattle.walk.proofs.Cut.{stems, with_more, ran_more, ran_filled, ran_not_stems, Cut, uncut, cut, ran_cut}
use Rattle.walk.proofs.Bounds.{walk_decided}

-- the counts where a table lacks room: it is filled, and nothing later was begun
pub record Filled (S P : ℕ) (r : Walked) : Type 0 where
  pub in_u : r.finish.verdict ≡ stems_full 0 → (length r.smallest ≡ S) × (length r.largest ≡ 0) × (r.finish.periods ≡ 0) × (r.finish.tests ≡ 0)
  pub in_w : r.finish.verdict ≡ stems_full 1 → (length r.largest ≡ S) × (r.finish.periods ≡ 0) × (r.finish.tests ≡ 0)
  pub in_periods : r.finish.verdict ≡ periods_full → r.finish.periods ≡ P

-- after 8 and 9 the table that lacks room is filled
pub walk_filled : (A B : Aut) (S P : ℕ) → Filled S P (walk A B S P)
walk_filled A B S P = at (walks A B S P)
  where
    at : {r : Walked} → Walks A B S P r → Filled S P r
    at (u_full u e) = record {
      in_u = λ q. ((stems A B false).filled S u e, refl, refl, refl);
      in_w = λ q. absurd cc;
      in_periods = λ q. absurd cc;
    }
    at (w_full u w e f) = record {
      in_u = λ q. absurd cc;
      in_w = λ q. ((stems A B true).filled S w f, refl, refl);
      in_periods = λ q. absurd cc;
    }
    at (ran u w e f h) = record {
      in_u = λ q. absurd (ran_not_stems h q);
      in_w = λ q. absurd (ran_not_stems h q);
      in_periods = λ q. ran_filled h (omega arith) q;
    }

-- ---- a walk that gives a verdict, and the same walk with other room

-- more room changes nothing
pub more_room : (A B : Aut) (S P S' P' : ℕ) → decided (walk A B S P).finish.verdict ≡ true → S ≤ S' → P ≤ P' → walk A B S' P' ≡ walk A B S P
more_room A B S P S' P' d l m =
    let h = whole (walks A B S P) d in
    walk_is (ran (walk A B S P).smallest (walk A B S P).largest (with_more (stems A B false) S S' h.u_ends l) (with_more (stems A B true) S S' h.w_ends l) (ran_more h.rounds_ran d m))

-- the walk with any room, told from one that gives a verdict
data Told (free : Walked) (tables : List Visit) (S P : ℕ) : Finish → Type 0 where
  u_lacks : S < length free.smallest → Told free tables S P (record { verdict = stems_full 0; periods = 0; tests = 0 })
  w_lacks : length free.smallest ≤ S → S < length free.largest → Told free tables S P (record { verdict = stems_full 1; periods = 0; tests = 0 })
  both_fit : {f : Finish} → length free.smallest ≤ S → length free.largest ≤ S → Cut P tables free.finish f → Told free tables S P f

told : (A B : Aut) (S M P N : ℕ) {free : Walked} → Whole A B M N free → decided free.finish.verdict ≡ true
    → Told free (visits A B free.smallest N (rounds A B free.largest) 0) S P (walk A B S P).finish
told A B S M P N {free} h d = at (dec_le (length u) S) (dec_le (length w) S)
  where
    u : List ℕ
    u = free.smallest

    w : List ℕ
    w = free.largest

    at : Dec (length u ≤ S) → Dec (length w ≤ S) → Told free (visits A B u N (rounds A B w) 0) S P (walk A B S P).finish
    at (no l) k = let (s, e) = (stems A B false).overfull S M u h.u_ends (omega arith) in rw (walk_is {P = P} (u_full s e)) (u_lacks (omega arith))
    at (yes l) (no k) =
        let e = (stems A B false).fits S M u h.u_ends l in
        let (s, f) = (stems A B true).overfull S M w h.w_ends (omega arith) in
        rw (walk_is {P = P} (w_full u s e f)) (w_lacks l (omega arith))
    at (yes l) (yes k) =
        let e = (stems A B false).fits S M u h.u_ends l in
        let f = (stems A B true).fits S M w h.w_ends k in
        rw (walk_is (ran u w e f (runs A B u P (rounds A B w) 0 0))) (both_fit l k (ran_cut A B u P N h.rounds_ran d (omega arith)))

neither : {X Y : Type 0} → (X → ⊥) → (Y → ⊥) → X ↔ Y
neither f g = (λ x. absurd (f x), λ y. absurd (g y))

-- A walk with room for S stems and P periods stops exactly where the walk without room needs more: 8 in U, 8 in W, 9, where the tests made are
-- those that it made up to there.
pub record Short (free : Walked) (tables : List Visit) (S P : ℕ) (f : Finish) : Type 0 where
  pub of_u : (f.verdict ≡ stems_full 0) ↔ (S < length free.smallest)
  pub of_w : (f.verdict ≡ stems_full 1) ↔ ((length free.smallest ≤ S) × (S < length free.largest))
  pub of_periods : (f.verdict ≡ periods_full) ↔ ((length free.smallest ≤ S) × (length free.largest ≤ S) × (stops_at P tables ≡ some f.tests))

short_told : {free : Walked} {tables : List Visit} {S P : ℕ} {f : Finish} → decided free.finish.verdict ≡ true → Told free tables S P f → Short free tables S P f
short_told d (u_lacks l) = record {
  of_u = (λ q. l, λ m. refl);
  of_w = neither (λ q. cc) (λ m. omega arith);
  of_periods = neither (λ q. cc) (λ m. omega arith);
}
short_told d (w_lacks l k) = record {
  of_u = neither (λ q. cc) (λ m. omega arith);
  of_w = (λ q. (l, k), λ m. refl);
  of_periods = neither (λ q. cc) (λ m. omega arith);
}
short_told d (both_fit l k (cut t s)) = record {
  of_u = neither (λ q. cc) (λ m. omega arith);
  of_w = neither (λ q. cc) (λ m. omega arith);
  of_periods = (λ q. (l, k, s), λ m. refl);
}
short_told d (both_fit l k (uncut s)) = record {
  of_u = neither (λ q. true≢false (sym d ∙ ap decided q)) (λ m. omega arith);
  of_w = neither (λ q. true≢false (sym d ∙ ap decided q)) (λ m. omega arith);
  of_periods = neither (λ q. true≢false (sym d ∙ ap decided q)) (λ m. let e = m.2 in cc);
}

-- ---- against the walk without room

module _ {A B : Aut} (bound : Bounded 16 16 A) (small : Small 8 B) {a b : ℕ} (by-a : Numbered a A) (by-b : Numbered b B) where
  unhindered_decided : decided (unhindered A B a b).finish.verdict ≡ true
  unfolding unhindered
  unhindered_decided = walk_decided bound small by-a by-b (a * 2 ^ b) (a * 3 ^ (b * b)) (le_refl (a * 2 ^ b)) (le_refl (a * 3 ^ (b * b)))

  pub short : (S P : ℕ) → Short (unhindered A B a b) (visited A B a b) S P (walk A B S P).finish
  unfolding unhindered visited
  short S P = short_told unhindered_decided (told A B S (a * 2 ^ b) P (a * 3 ^ (b * b)) (whole (walks A B (a * 2 ^ b) (a * 3 ^ (b * b))) unhindered_decided) unhindered_decided)

  -- a walk that gives a verdict is the walk without room
  pub as_unhindered : (S P : ℕ) → decided (walk A B S P).finish.verdict ≡ true → walk A B S P ≡ unhindered A B a b
  unfolding unhindered
  as_unhindered S P d =
      let S' = max S (a * 2 ^ b) in
      let P' = max P (a * 3 ^ (b * b)) in
      sym (more_room A B S P S' P' d (omega arith) (omega arith)) ∙ more_room A B (a * 2 ^ b) (a * 3 ^ (b * b)) S' P' unhindered_decided (omega arith) (omega arith)
