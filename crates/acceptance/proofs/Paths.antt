-- Paths over joined and repeated words. Assumes nothing.
use mathlib.Core.Path.{◌≡◌, ap}
use mathlib.Core.Bool.{true, ◌||◌}
use mathlib.Core.Logic.{⊎_elim}
use mathlib.Core.List.{[], ◌∷◌, ◌++◌, append-nil, append_assoc}
use Prim.Native.Nat.{ℕ, zero, suc, ◌+◌, ◌*◌, ◌≤◌}
use native.Mathlib.Nat.{zero-add, suc-add, mul-suc, mul-zero, add_comm, le_refl}
use native.Mathlib.Omega.{arith}
use lib.ListN.{length}
use Rattle.bits.proofs.Truth.{or_cases, or_left, or_right}
use Rattle.acceptance.specs.Lasso.{Word, power, Aut, Reach, here, move, Through, accepting, marked, later, Accepted, opens, Period, starts}

-- ---- repeated words

power_one : (v : Word) → power v 1 ≡ v
power_one v = append-nil v

pub power_add : (v : Word) (i j : ℕ) → power v (i + j) ≡ power v i ++ power v j
power_add v zero j = rw zero-add
power_add v (suc i) j = rw (suc-add, append_assoc) (ap (λ (w : Word). v ++ w) (power_add v i j))

pub power_mul : (v : Word) (i j : ℕ) → power (power v i) j ≡ power v (i * j)
power_mul v i zero = rw mul-zero
power_mul v i (suc j) = rw (mul-suc, add_comm (i * j) i, power_add v i (i * j)) (ap (λ (w : Word). power v i ++ w) (power_mul v i j))

-- x (y x)^n y is (x y)^(n + 1)
pub slide : (x y : Word) (n : ℕ) → x ++ power (y ++ x) n ++ y ≡ power (x ++ y) (suc n)
slide x y zero = simp append-nil
slide x y (suc n) = simp append_assoc (ap (λ (w : Word). x ++ (y ++ w)) (simp append_assoc at (slide x y n)))

-- ---- paths over joined words

-- a path over x and then y through acceptance: in the first word or in the second
pub data Seam (A : Aut) (p : ℕ) (x y : Word) (r : ℕ) : Type 0 where
  in_first : {q : ℕ} → Through A p x q → Reach A q y r → Seam A p x y r
  in_second : {q : ℕ} → Reach A p x q → Through A q y r → Seam A p x y r

-- a path over w and then the letter x through acceptance: before the last step, or by it, which is accepting or leads to acceptance
pub data Last (A : Aut) (p : ℕ) (w : Word) (x r : ℕ) : Type 0 where
  passed : {m : ℕ} → Through A p w m → A.step m x r ≡ true → Last A p w x r
  closed : {m : ℕ} → Reach A p w m → A.step m x r ≡ true → (A.final r || A.mark m x r) ≡ true → Last A p w x r

module _ {A : Aut} where
  pub reach_append : {p q r : ℕ} {x y : Word} → Reach A p x q → Reach A q y r → Reach A p (x ++ y) r
  reach_append here h = h
  reach_append (move s g) h = move s (reach_append g h)

  pub reach_split : (x : Word) {y : Word} {p r : ℕ} → Reach A p (x ++ y) r → (q : ℕ) × Reach A p x q × Reach A q y r
  reach_split [] {p = p} h = (p, here, h)
  reach_split (a ∷ x) (move s h) = let (q, g, k) = reach_split x h in (q, move s g, k)

  unfoldable pub forget : {p r : ℕ} {w : Word} → Through A p w r → Reach A p w r
  forget (accepting f h) = h
  forget (marked s m h) = move s h
  forget (later s t) = move s (forget t)

  pub through_left : {p q r : ℕ} {x y : Word} → Through A p x q → Reach A q y r → Through A p (x ++ y) r
  through_left (accepting f g) h = accepting f (reach_append g h)
  through_left (marked s m g) h = marked s m (reach_append g h)
  through_left (later s t) h = later s (through_left t h)

  pub through_right : {p q r : ℕ} {x y : Word} → Reach A p x q → Through A q y r → Through A p (x ++ y) r
  through_right here t = t
  through_right (move s h) t = later s (through_right h t)

  seam_move : {p x q r : ℕ} {w y : Word} → A.step p x q ≡ true → Seam A q w y r → Seam A p (x ∷ w) y r
  seam_move s (in_first t h) = in_first (later s t) h
  seam_move s (in_second h t) = in_second (move s h) t

  pub through_split : (x : Word) {y : Word} {p r : ℕ} → Through A p (x ++ y) r → Seam A p x y r
  through_split [] t = in_second here t
  through_split (a ∷ x) (accepting f (move s h)) = let (q, g, k) = reach_split x h in in_first (accepting f (move s g)) k
  through_split (a ∷ x) (marked s m h) = let (q, g, k) = reach_split x h in in_first (marked s m g) k
  through_split (a ∷ x) (later s t) = seam_move s (through_split x t)

  -- a loop through acceptance may be entered at another place of it
  pub turn : (x y : Word) {p : ℕ} → Through A p (x ++ y) p → (q : ℕ) × Reach A p x q × Through A q (y ++ x) q
  turn x y {p} t = at (through_split x t)
    where
      at : Seam A p x y p → (q : ℕ) × Reach A p x q × Through A q (y ++ x) q
      at (in_first {q = q} t h) = (q, forget t, through_right h t)
      at (in_second {q = q} h t) = (q, h, through_left t h)

  -- ---- one letter more

  pub reach_snoc : (x : ℕ) {p m r : ℕ} {w : Word} → Reach A p w m → A.step m x r ≡ true → Reach A p (w ++ (x ∷ [])) r
  reach_snoc x h t = reach_append h (move t here)

  one_step : {p x r : ℕ} → Reach A p (x ∷ []) r → A.step p x r ≡ true
  one_step (move t here) = t

  pub through_snoc : (w : Word) (x : ℕ) {p r : ℕ} → Last A p w x r → Through A p (w ++ (x ∷ [])) r
  through_snoc w x (passed h t) = through_left h (move t here)
  through_snoc w x {r = r} (closed {m = m} h t a) =
      through_right h (⊎_elim (λ f. later t (accepting f here)) (λ k. marked t k here) (or_cases (A.final r) (A.mark m x r) a))

  pub through_end : {p m : ℕ} {w : Word} → Reach A p w m → A.final m ≡ true → Through A p w m
  through_end here f = accepting f here
  through_end (move t h) f = later t (through_end h f)

  last_step : {p m x r : ℕ} {w : Word} → Reach A p w m → Through A m (x ∷ []) r → Last A p w x r
  last_step h (accepting f (move t here)) = passed (through_end h f) t
  last_step {m = m} {x} {r} h (marked t k here) = closed h t (or_right (A.final r) (A.mark m x r) k)
  last_step {m = m} {x} {r} h (later t (accepting f here)) = closed h t (or_left (A.final r) (A.mark m x r) f)

  last_of : {p x r : ℕ} {w : Word} → Seam A p w (x ∷ []) r → Last A p w x r
  last_of (in_first t h) = passed t (one_step h)
  last_of (in_second h t) = last_step h t

  pub through_unsnoc : (w : Word) (x : ℕ) {p r : ℕ} → Through A p (w ++ (x ∷ [])) r → Last A p w x r
  through_unsnoc w x t = last_of (through_split w t)

  -- ---- paths over repeated words

  pub reach_power : (k : ℕ) {v : Word} {p : ℕ} → Reach A p v p → Reach A p (power v k) p
  reach_power zero h = here
  reach_power (suc k) h = reach_append h (reach_power k h)

  -- ---- periods

  pub period_reach : {s r : ℕ} {v : Word} → Period A s v r → Reach A s v r
  period_reach (starts g o h) = move g h

  period_through : {s r : ℕ} {v : Word} → Period A s v r → Through A s v r
  unfolding opens
  period_through {s} (starts {x = x} {q = q} g o h) = ⊎_elim (λ f. accepting f (move g h)) (λ m. marked g m h) (or_cases (A.final s) (A.mark s x q) o)

  pub period_long : {s r : ℕ} {v : Word} → Period A s v r → 1 ≤ length v
  period_long (starts g o h) = omega arith

  pub period_append : {s q r : ℕ} {v w : Word} → Period A s v q → Reach A q w r → Period A s (v ++ w) r
  period_append (starts g o h) k = starts g o (reach_append h k)

  -- ---- a stem and a period of A are a lasso of A

  pub sound : {u v : Word} {s : ℕ} → Reach A A.start u s → Period A s v s → Accepted A u v
  sound {u} {v} {s} h p = record {
    at = s;
    i = 0;
    k = 1;
    some_round = le_refl 1;
    stem = rw append-nil h;
    loop = rw power_one (period_through p);
  }
