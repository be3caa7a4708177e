-- Warshall's closure, for relations of any number of states and any form: what it relates is what is reached.
-- Stage k + 1 adds, to the pairs of stage k, each pair that two of them make which meet in state k. Assumes nothing.
use mathlib.Core.Bool.{Bool, true, ◌&&◌, ◌||◌}
use mathlib.Core.Logic.{◌⊎◌, inl, inr, ⊎_elim}
use mathlib.Core.Path.{◌≡◌, refl, sym, ◌∙◌, subst}
use Prim.Native.Nat.{ℕ, zero, suc, ◌≤◌, ◌<◌}
use native.Mathlib.Nat.{not-suc-le-zero, eq-or-lt_of_le, le_of_suc-le-suc, le_refl}
use native.Mathlib.Omega.{arith}
use borrow.Author.Tests.{eq-eqb, eqb-true}
use lib.Dec.{eqb}
use Rattle.bits.proofs.Truth.{and_left, and_right, and_both, or_left, or_right, or_cases}

-- q reaches q' by pairs of r, none or more, over states below n
pub data Reaches (n : ℕ) (r : ℕ → ℕ → Bool) : ℕ → ℕ → Type 0 where
  stay : {q : ℕ} → Reaches n r q q
  then : {q m q' : ℕ} → m < n → r q m ≡ true → Reaches n r m q' → Reaches n r q q'

pub reaches_append : {n : ℕ} {r : ℕ → ℕ → Bool} {q m q' : ℕ} → Reaches n r q m → Reaches n r m q' → Reaches n r q q'
reaches_append stay b = b
reaches_append (then l e a) b = then l e (reaches_append a b)

pub reaches_small : {n : ℕ} {r : ℕ → ℕ → Bool} {q q' : ℕ} → q < n → Reaches n r q q' → q' < n
reaches_small h stay = h
reaches_small h (then l e a) = reaches_small l a

module _ (n : ℕ) (r : ℕ → ℕ → Bool) (stage : ℕ → ℕ → ℕ → Bool)
    (start : (q q' : ℕ) → q < n → q' < n → stage 0 q q' ≡ (r q q' || eqb q q'))
    (next : (k q q' : ℕ) → k < n → q < n → q' < n → stage (suc k) q q' ≡ (stage k q q' || stage k q k && stage k k q')) where
  -- a pair of the next stage is one of this, or two of this that meet in k
  cases : (k q q' : ℕ) → k < n → q < n → q' < n → stage (suc k) q q' ≡ true
      → (stage k q q' ≡ true) ⊎ ((stage k q k ≡ true) × (stage k k q' ≡ true))
  cases k q q' l h h' e =
      ⊎_elim (λ p. inl p) (λ p. inr (and_left (stage k q k) (stage k k q') p, and_right (stage k q k) (stage k k q') p))
      (or_cases (stage k q q') (stage k q k && stage k k q') (sym (next k q q' l h h') ∙ e))

  keeps : (k q q' : ℕ) → k < n → q < n → q' < n → stage k q q' ≡ true → stage (suc k) q q' ≡ true
  keeps k q q' l h h' e = next k q q' l h h' ∙ or_left (stage k q q') (stage k q k && stage k k q') e

  joins : (k q q' : ℕ) → k < n → q < n → q' < n → stage k q k ≡ true → stage k k q' ≡ true → stage (suc k) q q' ≡ true
  joins k q q' l h h' e e' =
      next k q q' l h h' ∙ or_right (stage k q q') (stage k q k && stage k k q') (and_both (stage k q k) (stage k k q') e e')

  -- stage k is transitive through each state below k
  Passing : ℕ → Type 0
  Passing k = (m q q' : ℕ) → m < k → q < n → q' < n → stage k q m ≡ true → stage k m q' ≡ true → stage k q q' ≡ true

  -- two pairs that meet in an m up to k: they make a pair of stage k, or m is k
  meet : (k : ℕ) → k < n → Passing k → (m q q' : ℕ) → m < suc k → q < n → q' < n → stage k q m ≡ true → stage k m q' ≡ true
      → (stage k q q' ≡ true) ⊎ ((stage k q k ≡ true) × (stage k k q' ≡ true))
  unfolding Passing
  meet k l passes m q q' u h h' e e' =
      ⊎_elim
      (λ (same : m ≡ k). inr (subst (λ (j : ℕ). stage k q j ≡ true) same e, subst (λ (j : ℕ). stage k j q' ≡ true) same e'))
      (λ less. inl (passes m q q' less h h' e e'))
      (eq-or-lt_of_le (le_of_suc-le-suc u))

  passing_next : (k : ℕ) → k < n → Passing k → Passing (suc k)
  unfolding Passing
  passing_next k l passes m q q' u h h' e e' =
      ⊎_elim
      (λ (a : stage k q m ≡ true). ⊎_elim
      (λ (b : stage k m q' ≡ true). ⊎_elim (keeps k q q' l h h') (λ w. joins k q q' l h h' w.0 w.1) (meet k l passes m q q' u h h' a b))
      (λ b. joins k q q' l h h' (⊎_elim (λ w. w) (λ w. w.0) (meet k l passes m q k u h l a b.0)) b.1)
      (cases k m q' l m<n h' e'))
      (λ a. ⊎_elim
      (λ (b : stage k m q' ≡ true). joins k q q' l h h' a.0 (⊎_elim (λ w. w) (λ w. w.1) (meet k l passes m k q' u l h' a.1 b)))
      (λ b. joins k q q' l h h' a.0 b.1)
      (cases k m q' l m<n h' e'))
      (cases k q m l h m<n e)
    where
      m<n : m < n
      m<n = omega arith

  passing : (k : ℕ) → k ≤ n → Passing k
  unfolding Passing
  passing zero l = λ m q q' h. absurd (not-suc-le-zero h)
  passing (suc k) l = passing_next k l (passing k (omega arith))

  kept : (k q q' : ℕ) → k ≤ n → q < n → q' < n → stage 0 q q' ≡ true → stage k q q' ≡ true
  kept zero q q' l h h' e = e
  kept (suc k) q q' l h h' e = keeps k q q' l h h' (kept k q q' (omega arith) h h' e)

  -- what is reached is related by the last stage
  pub reaches_stage : {q q' : ℕ} → Reaches n r q q' → q < n → q' < n → stage n q q' ≡ true
  unfolding Passing
  reaches_stage (stay {q = q}) h h' = kept n q q (le_refl n) h h' (start q q h h' ∙ or_right (r q q) (eqb q q) (eq-eqb q q refl))
  reaches_stage (then {q = q} {m = m} {q' = q'} l e path) h h' =
      passing n (le_refl n) m q q' l h h' (kept n q m (le_refl n) h l (start q m h l ∙ or_left (r q m) (eqb q m) e)) (reaches_stage path l h')

  reached : (k q q' : ℕ) → k ≤ n → q < n → q' < n → stage k q q' ≡ true → Reaches n r q q'
  reached zero q q' l h h' e =
      ⊎_elim
      (λ p. then h' p stay)
      (λ p. subst (Reaches n r q) (eqb-true q q' p) stay)
      (or_cases (r q q') (eqb q q') (sym (start q q' h h') ∙ e))
  reached (suc k) q q' l h h' e =
      ⊎_elim
      (reached k q q' (omega arith) h h')
      (λ w. reaches_append (reached k q k (omega arith) h l w.0) (reached k k q' (omega arith) l h' w.1))
      (cases k q q' l h h' e)

  -- what the last stage relates is reached
  pub stage_reaches : (q q' : ℕ) → q < n → q' < n → stage n q q' ≡ true → Reaches n r q q'
  stage_reaches q q' h h' e = reached n q q' (le_refl n) h h' e
