-- The search over the pairs, one step at a time: a stem or a period that is passed over, and a test. Assumes nothing.
use mathlib.Core.Path.{◌≡◌, refl, sym, ap, ap₂, ◌∙◌}
use mathlib.Core.Bool.{Bool, true, false, ◌&&◌}
use mathlib.Core.List.{List, [], ◌∷◌, ◌++◌, Memᴰ}
use Prim.Native.Nat.{ℕ, suc, ◌+◌, ◌-◌, ◌*◌, ◌≤◌, ◌<◌}
use native.Mathlib.Nat.{add-mul, one-mul, mul-le-mul_right, mul-le-mul_left}
use native.Mathlib.Numerals.{add-one}
use native.Mathlib.Omega.{arith}
use lib.Dec.{eqb}
use lib.ListN.{length, get_or}
use borrow.Author.Tests.{eq-eqb, ne_eqb}
use Rattle.std.specs.Prelude.{Ok, Err}
use Rattle.bits.specs.Fields.{link_state}
use Rattle.growth.specs.Steps.{gather, only, steps}
use Rattle.walk.specs.Walk.{Search, passed, rejected, search, fits, pairs_of}
use Rattle.lassos.specs.Pairs.{found_of, meeting, Few}
use Rattle.growth.proofs.Gathered.{gather_all, gather_next, gather_past, gather_over, gather_nothing}

-- ---- the tests

-- tests that agree on the pairs
pub search_same : (f g : ℕ → ℕ → Bool) (cs : List (ℕ × ℕ)) (t : ℕ) → ((c : ℕ × ℕ) → Memᴰ c cs → f c.0 c.1 ≡ g c.0 c.1) → search f cs t ≡ search g cs t
unfolding search
search_same f g [] t h = refl
search_same f g (c ∷ cs) t h =
    ap₂ (λ (b : Bool) (o : Search). elim b [ true ↦ o | false ↦ rejected (suc t) c.0 c.1 ]) (h c (Memᴰ.head refl))
    (search_same f g cs (suc t) (λ d m. h d (Memᴰ.tail m)))

module _ (test : ℕ → ℕ → Bool) where
  search_none : (t : ℕ) → search test [] t ≡ passed t
  unfolding search
  search_none t = refl

  search_pass : (i j : ℕ) (cs : List (ℕ × ℕ)) (t : ℕ) → test i j ≡ true → search test ((i, j) ∷ cs) t ≡ search test cs (t + 1)
  unfolding search
  search_pass i j cs t h = rw (h, search, add-one)

  search_fail : (i j : ℕ) (cs : List (ℕ × ℕ)) (t : ℕ) → test i j ≡ false → search test ((i, j) ∷ cs) t ≡ rejected (t + 1) i j
  unfolding search
  search_fail i j cs t h = rw (h, search, add-one)

-- ---- the pairs

module _ (u : List ℕ) (s rows : ℕ) (links : List ℕ) where
  -- the stem at i with the period at j, where both are at s
  unfoldable pub pair_at : ℕ → ℕ → List (ℕ × ℕ)
  pair_at i j = only (fits s rows (get_or u i 0) && eqb (link_state (get_or links j 0)) s) (i, j)

  -- with every period
  unfoldable pub pairs_at : ℕ → List (ℕ × ℕ)
  pairs_at i = gather 0 (length links) (pair_at i)

  -- those from the stem at i on
  unfoldable pub pairs_from : ℕ → List (ℕ × ℕ)
  pairs_from i = gather i (length u - i) pairs_at

  -- those of the stem at i from the period at j on, and those of the later stems
  unfoldable pub pairs_on : ℕ → ℕ → List (ℕ × ℕ)
  pairs_on i j = gather j (length links - j) (pair_at i) ++ pairs_from (i + 1)

  from_all : pairs_of u s rows links ≡ pairs_from 0
  unfolding pairs_of steps pairs_from pairs_at pair_at
  from_all = gather_all pairs_at (length u)

  from_none : (i : ℕ) → length u ≤ i → pairs_from i ≡ []
  unfolding pairs_from
  from_none i l = gather_over pairs_at (length u) i l

  from_stem : (i : ℕ) → i < length u → pairs_from i ≡ pairs_on i 0
  unfolding pairs_from pairs_on pairs_at
  from_stem i l = gather_next pairs_at (length u) i l
      ∙ ap (λ (cs : List (ℕ × ℕ)). cs ++ gather (i + 1) (length u - (i + 1)) pairs_at) (gather_all (pair_at i) (length links))

  from_past : (i : ℕ) → i < length u → fits s rows (get_or u i 0) ≡ false → pairs_from i ≡ pairs_from (i + 1)
  unfolding pairs_from pairs_at pair_at
  from_past i l h = gather_past pairs_at (length u) i l (gather_nothing (pair_at i) 0 (length links) (λ j. rw h))

  on_none : (i j : ℕ) → length links ≤ j → pairs_on i j ≡ pairs_from (i + 1)
  unfolding pairs_on
  on_none i j l = ap (λ (cs : List (ℕ × ℕ)). cs ++ pairs_from (i + 1)) (gather_over (pair_at i) (length links) j l)

  on_past : (i j : ℕ) → j < length links → eqb (link_state (get_or links j 0)) s ≡ false → pairs_on i j ≡ pairs_on i (j + 1)
  unfolding pairs_on pair_at
  on_past i j l h = ap (λ (cs : List (ℕ × ℕ)). cs ++ pairs_from (i + 1)) (gather_past (pair_at i) (length links) j l (at (fits s rows (get_or u i 0)) h))
    where
      at : {c : Bool} (b : Bool) → c ≡ false → only {E = ℕ × ℕ} (b && c) (i, j) ≡ []
      at true e = rw e
      at false e = refl

  on_pair : (i j : ℕ) → j < length links → fits s rows (get_or u i 0) ≡ true → eqb (link_state (get_or links j 0)) s ≡ true → pairs_on i j ≡ (i, j) ∷ pairs_on i (j + 1)
  unfolding pairs_on pair_at
  on_pair i j l f h =
      ap (λ (cs : List (ℕ × ℕ)). cs ++ pairs_from (i + 1)) (gather_next (pair_at i) (length links) j l)
      ∙ ap (λ (b : Bool). (only (b && eqb (link_state (get_or links j 0)) s) (i, j) ++ gather (j + 1) (length links - (j + 1)) (pair_at i)) ++ pairs_from (i + 1)) f
      ∙ ap (λ (b : Bool). (only b (i, j) ++ gather (j + 1) (length links - (j + 1)) (pair_at i)) ++ pairs_from (i + 1)) h

-- ---- the loops: the pairs that are left give what all give

module _ (u sets : List ℕ) (s rows : ℕ) (links : List ℕ) (before : ℕ) where
  pub record Left (cs : List (ℕ × ℕ)) (t : ℕ) : Type 0 where
    pub gives : search (meeting u sets) cs t ≡ search (meeting u sets) (pairs_of u s rows links) before

  same_left : {cs ds : List (ℕ × ℕ)} {t : ℕ} → cs ≡ ds → Left cs t → Left ds t
  same_left {t = t} e h = record { gives = ap (λ (bs : List (ℕ × ℕ)). search (meeting u sets) bs t) (sym e) ∙ h.gives }

  pub begin : Left (pairs_from u s rows links 0) before
  begin = same_left (from_all u s rows links) (record { gives = refl })

  pub pass_stem : (i : ℕ) {t : ℕ} → i < length u → fits s rows (get_or u i 0) ≡ false → Left (pairs_from u s rows links i) t → Left (pairs_from u s rows links (i + 1)) t
  pass_stem i l h = same_left (from_past u s rows links i l h)

  pub enter : (i : ℕ) {t : ℕ} → i < length u → Left (pairs_from u s rows links i) t → Left (pairs_on u s rows links i 0) t
  enter i l = same_left (from_stem u s rows links i l)

  pub pass_period : (i j : ℕ) {t : ℕ} → j < length links → (link_state (get_or links j 0) ≡ s → ⊥) → Left (pairs_on u s rows links i j) t → Left (pairs_on u s rows links i (j + 1)) t
  pass_period i j l h = same_left (on_past u s rows links i j l (ne_eqb (link_state (get_or links j 0)) s h))

  pub leave : (i j : ℕ) {t : ℕ} → length links ≤ j → Left (pairs_on u s rows links i j) t → Left (pairs_from u s rows links (i + 1)) t
  leave i j l = same_left (on_none u s rows links i j l)

  pub finish : (i : ℕ) {t : ℕ} → length u ≤ i → Left (pairs_from u s rows links i) t → Ok t ≡ found_of (search (meeting u sets) (pairs_of u s rows links) before)
  finish i {t} l h = ap found_of (sym (search_none (meeting u sets) t) ∙ (same_left (from_none u s rows links i l) h).gives)

  module _ (i j : ℕ) {t : ℕ} (l : j < length links) (f : fits s rows (get_or u i 0) ≡ true) (e : link_state (get_or links j 0) ≡ s) (h : Left (pairs_on u s rows links i j) t) where
    at_pair : Left ((i, j) ∷ pairs_on u s rows links i (j + 1)) t
    at_pair = same_left (on_pair u s rows links i j l f (eq-eqb (link_state (get_or links j 0)) s e)) h

    pub tested : meeting u sets i j ≡ true → Left (pairs_on u s rows links i (j + 1)) (t + 1)
    tested m = record { gives = sym (search_pass (meeting u sets) i j (pairs_on u s rows links i (j + 1)) t m) ∙ at_pair.gives }

    pub rejects : meeting u sets i j ≡ false → Err (record { tests = t + 1; stem = i; period = j }) ≡ found_of (search (meeting u sets) (pairs_of u s rows links) before)
    rejects m = ap found_of (sym (search_fail (meeting u sets) i j (pairs_on u s rows links i (j + 1)) t m) ∙ at_pair.gives)

-- ---- how many there are

pub next_row : (i m : ℕ) → (i + 1) * m ≡ i * m + m
next_row i m = add-mul i 1 m ∙ ap (λ (x : ℕ). i * m + x) (one-mul m)

-- so the count fits
pub pairs_few : {u links sets : List ℕ} {before : ℕ} → Few u links sets before → (i : ℕ) → i ≤ length u → i * length links ≤ 4096 * 65535
pairs_few {u} {links} few i l =
    let l₁ : i * length links ≤ 4096 * length links = mul-le-mul_right (length links) (omega (arith, few.stems)) in
    let l₂ : 4096 * length links ≤ 4096 * 65535 = mul-le-mul_left 4096 few.periods in
    omega arith

-- what the two loops take
pub ruleset search_steps = (begin, pass_stem, enter, pass_period, leave, finish, tested, rejects, next_row, pairs_few)
