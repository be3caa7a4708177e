-- The set that a word leads to is the set of the states that it reaches: from the states of a set, and from B's initial state, where sets compare as words do.
-- Assumes nothing.
use mathlib.Core.Path.{◌≡◌, refl, sym, ◌∙◌, subst}
use mathlib.Core.Bool.{true}
use mathlib.Core.List.{[], ◌∷◌, ◌++◌}
use Prim.Native.Nat.{ℕ, ◌^◌, ◌<◌, ◌≤◌}
use native.Mathlib.Nat.{lt_of_lt_of_le}
use borrow.Author.Tests.{eq-eqb, eqb-true}
use lib.Pow.{pow-lt}
use Rattle.bits.specs.Bits.{bit}
use Rattle.bits.specs.Sets.{SetIs, subset}
use Rattle.bits.proofs.Operations.{bit_power}
use Rattle.bits.proofs.Sets.{subset_self, set_is_subset, set_is_within}
use Rattle.bits.proofs.Moved.{moved_lt, moved_has, has_moved}
use Rattle.acceptance.specs.Lasso.{Word, Aut, Reach, here, move}
use Rattle.acceptance.specs.Contexts.{Small, moved_by, moved_all, target}
use Rattle.acceptance.proofs.Paths.{reach_append, reach_split}
use Rattle.acceptance.proofs.Preserve.{Below}
use Rattle.acceptance.proofs.Complete.{Coded}

-- q is where w leads to from a state with P
pub record From (B : Aut) (P : ℕ → Type 0) (w : Word) (q : ℕ) : Type 0 where
  pub state : ℕ
  pub origin : P state
  pub path : Reach B state w q

-- fewer states than n are fewer than m
pub small_more : {n m : ℕ} {B : Aut} → n ≤ m → Small n B → Small m B
small_more l small = record { start_small = lt_of_lt_of_le small.start_small l; step_small = λ p x q t. lt_of_lt_of_le (small.step_small p x q t) l }

-- a set by a property that comes to the same
pub set_is_iff : {n x : ℕ} {P Q : ℕ → Type 0} → ((q : ℕ) → P q → Q q) → ((q : ℕ) → Q q → P q) → SetIs n x P → SetIs n x Q
set_is_iff f g is = record { has = λ q h. is.has q (g q h); only = λ q l e. f q (is.only q l e) }

-- the empty word leads from q to q
pub single_is : {n : ℕ} {B : Aut} {q : ℕ} → q < n → SetIs n (2 ^ q) (Reach B q [])
single_is {n} {B} {q} l = record { has = λ r. alone; only = λ r m e. subst (Reach B q []) (eqb-true q r (sym (bit_power q r) ∙ e)) here }
  where
    alone : {r : ℕ} → Reach B q [] r → (r < n) × (bit (2 ^ q) r ≡ true)
    alone here = (l, bit_power q q ∙ eq-eqb q q refl)

-- what a word reaches is where its last part leads to from what the first part reaches
pub reach_from : {n t q : ℕ} {B : Aut} {u w : Word} → SetIs n t (From B (Reach B q u) w) → SetIs n t (Reach B q (u ++ w))
reach_from {u = u} is =
    set_is_iff (λ r f. reach_append f.origin f.path) (λ r h. let (m, g, k) = reach_split u h in record { state = m; origin = g; path = k }) is

-- ---- letter by letter

module _ (n : ℕ) (B : Aut) where
  pub moved_by_lt : (s x : ℕ) → moved_by n B s x < 2 ^ n
  unfolding moved_by
  moved_by_lt s x = moved_lt n (λ p q. B.step p x q) s

  pub moved_all_lt : (w : Word) (s : ℕ) → s < 2 ^ n → moved_all n B s w < 2 ^ n
  unfolding moved_all
  moved_all_lt [] s l = l
  moved_all_lt (x ∷ w) s l = moved_all_lt w (moved_by n B s x) (moved_by_lt s x)

  pub moved_all_snoc : (w : Word) (s x : ℕ) → moved_all n B s (w ++ (x ∷ [])) ≡ moved_by n B (moved_all n B s w) x
  unfolding moved_all
  moved_all_snoc [] s x = refl
  moved_all_snoc (y ∷ w) s x = moved_all_snoc w (moved_by n B s y) x

  pub target_nil : target n B [] ≡ 2 ^ B.start
  unfolding target moved_all
  target_nil = refl

  pub target_snoc : (w : Word) (x : ℕ) → target n B (w ++ (x ∷ [])) ≡ moved_by n B (target n B w) x
  unfolding target
  target_snoc w x = moved_all_snoc w (2 ^ B.start) x

module _ {n : ℕ} {B : Aut} (small : Small n B) where
  -- ---- a letter

  moved_from : {P : ℕ → Type 0} {s : ℕ} (x : ℕ) → SetIs n s P → SetIs n (moved_by n B s x) (From B P (x ∷ []))
  unfolding moved_by
  moved_from {P} {s} x is = record {
    has = λ q f. entered f.state f.origin f.path;
    only = λ q l e. let (p, m, h, t) = has_moved n (λ p q. B.step p x q) s q l e in record { state = p; origin = is.only p m h; path = move t here };
  }
    where
      entered : {q : ℕ} (p : ℕ) → P p → Reach B p (x ∷ []) q → (q < n) × (bit (moved_by n B s x) q ≡ true)
      entered {q} p h (move t here) =
          let (l, e) = is.has p h in
          let m = small.step_small p x q t in
          (m, moved_has n (λ p q. B.step p x q) s p q l m e t)

  pub moved_is : {q s : ℕ} {w : Word} (x : ℕ) → SetIs n s (Reach B q w) → SetIs n (moved_by n B s x) (Reach B q (w ++ (x ∷ [])))
  moved_is x is = reach_from (moved_from x is)

  -- ---- a word

  pub moved_all_is : (w : Word) {P : ℕ → Type 0} {s : ℕ} → SetIs n s P → SetIs n (moved_all n B s w) (From B P w)
  unfolding moved_all
  moved_all_is [] {P} is = set_is_iff (λ q h. record { state = q; origin = h; path = here }) (λ q f. ended f.path f.origin) is
    where
      ended : {p q : ℕ} → Reach B p [] q → P p → P q
      ended here h = h
  moved_all_is (x ∷ w) is =
      set_is_iff (λ q f. let g = f.origin in record { state = g.state; origin = g.origin; path = reach_append g.path f.path })
      (λ q f. let (m, g, k) = reach_split (x ∷ []) f.path in record { state = m; origin = record { state = f.state; origin = f.origin; path = g }; path = k })
      (moved_all_is w (moved_from x is))

  -- ---- from B's initial state

  pub target_is : (w : Word) → SetIs n (target n B w) (Reach B B.start w)
  unfolding target
  target_is w = reach_from (moved_all_is w (single_is small.start_small))

  -- a target inside another one: the paper's ≲
  pub subset_below : (u w : Word) → subset n (target n B u) (target n B w) ≡ true → Below B u w
  subset_below u w e = record { reach = λ {q}. set_is_within n (target_is u) (target_is w) e q }

  pub below_subset : (u w : Word) → Below B u w → subset n (target n B u) (target n B w) ≡ true
  below_subset u w f = set_is_subset n (target_is u) (target_is w) (λ q. f.reach)

  pub target_lt : (w : Word) → target n B w < 2 ^ n
  unfolding target
  target_lt w = moved_all_lt n B w (2 ^ B.start) (pow-lt small.start_small)

  pub coded : Coded B (2 ^ n)
  coded = record {
    code = target n B;
    small = target_lt;
    decides = λ {u} {w} e. subset_below u w (subst (λ (s : ℕ). subset n (target n B u) s ≡ true) e (subset_self n (target n B u)));
  }
