-- The candidates that are gathered: which they are, in what order, and how many. Assumes nothing.
use mathlib.Core.Path.{◌≡◌, refl, ap, ap₂, ◌∙◌}
use mathlib.Core.Logic.{◌⊎◌, inl, inr}
use mathlib.Core.Bool.{Bool, true, false, false≢true}
use mathlib.Core.List.Memᴰ
use mathlib.Core.List.{List, ◌++◌, map, map-append, Memᴰ}
use Prim.Native.Nat.{ℕ, zero, suc, ◌+◌, ◌*◌, ◌≤◌, ◌<◌}
use native.Mathlib.Decide.{ℕ_discrete}
use native.Mathlib.Omega.{arith}
use native.Mathlib.Nat.{zero-mul, suc-mul, mul-one, mul-zero}
use lib.ListN.{length, length-append}
use Rattle.growth.specs.Steps.{gather, only, steps}

-- ---- which they are

module _ {E : Type 0} where
  pub mem_only : (b : Bool) (e : E) → b ≡ true → Memᴰ e (only b e)
  mem_only true e t = Memᴰ.head refl
  mem_only false e t = absurd (false≢true t)

  pub only_mem : (b : Bool) {c e : E} → Memᴰ c (only b e) → (b ≡ true) × (c ≡ e)
  only_mem true m = (refl, Memᴰ.eq_of_singleton m)
  only_mem false m = absurd (Memᴰ.not-nil m)

  pub mem_gather : (i k : ℕ) (f : ℕ → List E) (j : ℕ) → i ≤ j → j < i + k → {c : E} → Memᴰ c (f j) → Memᴰ c (gather i k f)
  unfolding gather
  mem_gather i zero f j l m h = absurd (omega arith)
  mem_gather i (suc k) f j l m {c} h = at (ℕ_discrete j i) (λ n. mem_gather (suc i) k f j n (omega arith) h)
    where
      at : Dec (j ≡ i) → (suc i ≤ j → Memᴰ c (gather (suc i) k f)) → Memᴰ c (f i ++ gather (suc i) k f)
      at (yes e) ih = Memᴰ.append_left (gather (suc i) k f) (rw e at h)
      at (no d) ih = Memᴰ.append_right (f i) (ih (omega arith))

  pub gather_mem : (i k : ℕ) (f : ℕ → List E) {c : E} → Memᴰ c (gather i k f) → (j : ℕ) × (i ≤ j) × (j < i + k) × Memᴰ c (f j)
  unfolding gather
  gather_mem i zero f h = absurd (Memᴰ.not-nil h)
  gather_mem i (suc k) f {c} h = at (Memᴰ.append_cases (f i) h) (λ g. gather_mem (suc i) k f g)
    where
      at : Memᴰ c (f i) ⊎ Memᴰ c (gather (suc i) k f) → (Memᴰ c (gather (suc i) k f) → (j : ℕ) × (suc i ≤ j) × (j < suc i + k) × Memᴰ c (f j))
          → (j : ℕ) × (i ≤ j) × (j < i + suc k) × Memᴰ c (f j)
      at (inl g) ih = (i, omega arith, omega arith, g)
      at (inr g) ih = let (j, l, m, r) = ih g in (j, omega arith, omega arith, r)

  module _ (letters states : ℕ) (test : ℕ → ℕ → Bool) (make : ℕ → ℕ → E) where
    pub mem_steps : (x q : ℕ) → x < letters → q < states → test x q ≡ true → Memᴰ (make x q) (steps letters states test make)
    unfolding steps
    mem_steps x q l m t =
        mem_gather 0 letters (λ x. gather 0 states (λ q. only (test x q) (make x q))) x (omega arith) (omega arith)
        (mem_gather 0 states (λ q. only (test x q) (make x q)) q (omega arith) (omega arith) (mem_only (test x q) (make x q) t))

    pub steps_mem : {c : E} → Memᴰ c (steps letters states test make) → (x q : ℕ) × (x < letters) × (q < states) × (test x q ≡ true) × (c ≡ make x q)
    unfolding steps
    steps_mem m =
        let (x, _, l, m₁) = gather_mem 0 letters (λ x. gather 0 states (λ q. only (test x q) (make x q))) m in
        let (q, _, k, m₂) = gather_mem 0 states (λ q. only (test x q) (make x q)) m₁ in
        let (t, same) = only_mem (test x q) m₂ in
        (x, q, omega arith, omega arith, t, same)

-- ---- the same and mapped

module _ {E : Type 0} where
  gather_same : (i k : ℕ) (f g : ℕ → List E) → ((j : ℕ) → f j ≡ g j) → gather i k f ≡ gather i k g
  unfolding gather
  gather_same i zero f g h = refl
  gather_same i (suc k) f g h = ap₂ ◌++◌ (h i) (gather_same (suc i) k f g h)

  pub steps_same : (letters states : ℕ) (test test' : ℕ → ℕ → Bool) (make : ℕ → ℕ → E) → ((x q : ℕ) → test x q ≡ test' x q) → steps letters states test make ≡ steps letters states test' make
  unfolding steps
  steps_same letters states test test' make h =
      gather_same 0 letters (λ x. gather 0 states (λ q. only (test x q) (make x q))) (λ x. gather 0 states (λ q. only (test' x q) (make x q))) (λ x.
      gather_same 0 states (λ q. only (test x q) (make x q)) (λ q. only (test' x q) (make x q)) (λ q. ap (λ (b : Bool). only b (make x q)) (h x q)))

module _ {E F : Type 0} (f : E → F) where
  map_only : (b : Bool) (e : E) → map f (only b e) ≡ only b (f e)
  map_only true e = refl
  map_only false e = refl

  map_gather : (i k : ℕ) (g : ℕ → List E) (h : ℕ → List F) → ((j : ℕ) → map f (g j) ≡ h j) → map f (gather i k g) ≡ gather i k h
  unfolding gather
  map_gather i zero g h e = refl
  map_gather i (suc k) g h e = map-append f (g i) (gather (suc i) k g) ∙ ap₂ ◌++◌ (e i) (map_gather (suc i) k g h e)

  pub map_steps : (letters states : ℕ) (test : ℕ → ℕ → Bool) (make : ℕ → ℕ → E) → map f (steps letters states test make) ≡ steps letters states test (λ x q. f (make x q))
  unfolding steps
  map_steps letters states test make =
      map_gather 0 letters (λ x. gather 0 states (λ q. only (test x q) (make x q))) (λ x. gather 0 states (λ q. only (test x q) (f (make x q)))) (λ x.
      map_gather 0 states (λ q. only (test x q) (make x q)) (λ q. only (test x q) (f (make x q))) (λ q. map_only (test x q) (make x q)))

-- ---- how many

module _ {E : Type 0} where
  only_length : (b : Bool) (e : E) → length (only b e) ≤ 1
  only_length true e = omega arith
  only_length false e = omega arith

  -- at most c each
  gather_length : (i k c : ℕ) (f : ℕ → List E) → ((j : ℕ) → length (f j) ≤ c) → length (gather i k f) ≤ k * c
  unfolding gather
  gather_length i zero c f h = omega (arith, zero-mul c)
  gather_length i (suc k) c f h = omega (arith, length-append (f i) (gather (suc i) k f), h i, gather_length (suc i) k c f h, suc-mul k c)

  pub steps_length : (letters states : ℕ) (test : ℕ → ℕ → Bool) (make : ℕ → ℕ → E) → length (steps letters states test make) ≤ letters * states
  unfolding steps
  steps_length letters states test make =
      gather_length 0 letters states (λ x. gather 0 states (λ q. only (test x q) (make x q))) (λ x.
      rw mul-one at (gather_length 0 states 1 (λ q. only (test x q) (make x q)) (λ q. only_length (test x q) (make x q))))

  -- ---- where each second number goes with one first number only

  gather_both : (i k : ℕ) (f g : ℕ → List E) → length (gather i k (λ x. f x ++ g x)) ≡ length (gather i k f) + length (gather i k g)
  unfolding gather
  gather_both i zero f g = refl
  gather_both i (suc k) f g =
      omega (
        arith,
        gather_both (suc i) k f g,
        length-append (f i ++ g i) (gather (suc i) k (λ x. f x ++ g x)),
        length-append (f i) (g i),
        length-append (f i) (gather (suc i) k f),
        length-append (g i) (gather (suc i) k g),
      )

  gather_none : (i k : ℕ) (f : ℕ → Bool) (e : ℕ → E) → ((x : ℕ) → i ≤ x → f x ≡ true → ⊥) → length (gather i k (λ x. only (f x) (e x))) ≡ 0
  unfolding gather
  gather_none i zero f e h = refl
  gather_none i (suc k) f e h = at (f i) (h i (omega arith)) (gather_none (suc i) k f e (λ x l. h x (omega arith)))
    where
      at : (b : Bool) → (b ≡ true → ⊥) → length (gather (suc i) k (λ x. only (f x) (e x))) ≡ 0 → length (only b (e i) ++ gather (suc i) k (λ x. only (f x) (e x))) ≡ 0
      at true n z = absurd (n refl)
      at false n z = z

  gather_one : (i k r : ℕ) (f : ℕ → Bool) (e : ℕ → E) → ((x : ℕ) → f x ≡ true → x ≡ r) → length (gather i k (λ x. only (f x) (e x))) ≤ 1
  unfolding gather
  gather_one i zero r f e h = omega arith
  gather_one i (suc k) r f e h = at (f i) (h i) (gather_one (suc i) k r f e h)
    where
      at : (b : Bool) → (b ≡ true → i ≡ r) → length (gather (suc i) k (λ x. only (f x) (e x))) ≤ 1 → length (only b (e i) ++ gather (suc i) k (λ x. only (f x) (e x))) ≤ 1
      at true g l = let same = g refl in omega (arith, gather_none (suc i) k f e (λ x m t. omega (arith, h x t)))
      at false g l = l

  columns : (i m k : ℕ) (test : ℕ → ℕ → Bool) (of : ℕ → ℕ) (make : ℕ → ℕ → E) → ((x q : ℕ) → test x q ≡ true → x ≡ of q)
      → length (gather 0 m (λ x. gather i k (λ q. only (test x q) (make x q)))) ≤ k
  unfolding gather
  columns i m zero test of make h = omega (arith, gather_length 0 m 0 (λ x. gather i 0 (λ q. only (test x q) (make x q))) (λ x. omega arith), mul-zero m)
  columns i m (suc k) test of make h =
      omega (
        arith,
        gather_both 0 m (λ x. only (test x i) (make x i)) (λ x. gather (suc i) k (λ q. only (test x q) (make x q))),
        gather_one 0 m (of i) (λ x. test x i) (λ x. make x i) (λ x t. h x i t),
        columns (suc i) m k test of make h,
      )

  pub column_length : (letters states : ℕ) (test : ℕ → ℕ → Bool) (of : ℕ → ℕ) (make : ℕ → ℕ → E) → ((x q : ℕ) → test x q ≡ true → x ≡ of q)
      → length (steps letters states test make) ≤ states
  unfolding steps
  column_length letters states = columns 0 letters states
