-- Sample lassos, from the definitions alone. Each tells acceptance from a shortcut that gives false verdicts (document 01): a lasso that is accepted in
-- the middle of its period only, M9 and M8. Assumes nothing.
use mathlib.Core.Path.{◌≡◌, refl, sym, ap, ◌∙◌}
use mathlib.Core.Bool.{Bool, true, false, ◌&&◌, ◌||◌, false≢true}
use mathlib.Core.Logic.{◌⊎◌, inl, inr, ⊎_elim}
use mathlib.Core.List.{List, [], ◌∷◌}
use Prim.Native.Nat.{ℕ, zero, suc, ◌≤◌}
use native.Mathlib.Omega.{arith}
use borrow.Author.Tests.{eqb-true}
use lib.Dec.{eqb}
use Rattle.bits.proofs.Truth.{or_cases, and_left, and_right}
use Rattle.acceptance.specs.Lasso.{Word, power, Aut, Reach, here, move, Through, accepting, marked, later, Accepted}

-- (p, x, q) is one of these transitions
abbrev listed : List (ℕ × ℕ × ℕ) → ℕ → ℕ → ℕ → Bool
listed [] p x q = false
listed (t ∷ ts) p x q = (eqb t.0 p && (eqb t.1 x && eqb t.2 q)) || listed ts p x q

-- the automaton with initial state 0, the accepting state s and these transitions
abbrev spelled : ℕ → List (ℕ × ℕ × ℕ) → Aut
spelled s ts = record { start = 0; step = listed ts; final = eqb s; mark = λ p x q. false }

found : (t : ℕ × ℕ × ℕ) (ts : List (ℕ × ℕ × ℕ)) (p x q : ℕ) → listed (t ∷ ts) p x q ≡ true → ((t.1 ≡ x) × (t.2 ≡ q)) ⊎ (listed ts p x q ≡ true)
found t ts p x q h =
    ⊎_elim (λ e. inl (at (and_right (eqb t.0 p) (eqb t.1 x && eqb t.2 q) e))) inr
    (or_cases (eqb t.0 p && (eqb t.1 x && eqb t.2 q)) (listed ts p x q) h)
  where
    at : (eqb t.1 x && eqb t.2 q) ≡ true → (t.1 ≡ x) × (t.2 ≡ q)
    at e = (eqb-true t.1 x (and_left (eqb t.1 x) (eqb t.2 q) e), eqb-true t.2 q (and_right (eqb t.1 x) (eqb t.2 q) e))

-- ---- accepted in the middle of the period

abbrev pub inside : Aut
inside = spelled 1 ((0, 0, 1) ∷ (1, 1, 0) ∷ [])

pub inside_accepts : Accepted inside [] (0 ∷ 1 ∷ [])
inside_accepts = record { at = 0; i = 0; k = 1; some_round = omega arith; stem = here; loop = later {q = 1} refl (accepting refl (move refl here)) }

-- letter 1 enters state 0
turns : (p q : ℕ) → inside.step p 1 q ≡ true → 0 ≡ q
turns p q s =
    ⊎_elim (λ e. absurd (omega (arith, e.0))) (λ s. ⊎_elim (λ e. e.1) (λ e. absurd (false≢true e)) (found (1, 1, 0) [] p 1 q s)) (found (0, 0, 1) ((1, 1, 0) ∷ []) p 1 q s)

-- copies of the period lead from a state that is not accepting, as the initial one, to such states only
pub inside_only : (i : ℕ) {p q : ℕ} → inside.final p ≡ false → Reach inside p (power (0 ∷ 1 ∷ []) i) q → inside.final q ≡ false
inside_only zero f here = f
inside_only (suc i) f (move s (move {p = p} {q = q} s' h)) = inside_only i (ap (eqb 1) (sym (turns p q s'))) h

-- ---- M9: the accepting state is visited, and never again

abbrev pub m9 : Aut
m9 = spelled 0 ((0, 0, 1) ∷ (1, 0, 1) ∷ [])

-- every transition enters state 1
enters : (p x q : ℕ) → m9.step p x q ≡ true → q ≡ 1
enters p x q s =
    ⊎_elim (λ e. sym e.1) (λ s. ⊎_elim (λ e. sym e.1) (λ e. absurd (false≢true e)) (found (1, 0, 1) [] p x q s)) (found (0, 0, 1) ((1, 0, 1) ∷ []) p x q s)

-- which is not left, and not accepting
stays : {p q : ℕ} {w : Word} → p ≡ 1 → Reach m9 p w q → q ≡ 1
stays e here = e
stays e (move {p = p} {x = x} {q = q} s h) = stays (enters p x q s) h

never : {p q : ℕ} {w : Word} → p ≡ 1 → Through m9 p w q → ⊥
never e (accepting f h) = false≢true (sym (ap (eqb 0) e) ∙ f)
never e (marked s m h) = false≢true m
never e (later {p = p} {x = x} {q = q} s t) = never (enters p x q s) t

ends : {p x q : ℕ} {w : Word} → Reach m9 p (x ∷ w) q → q ≡ 1
ends (move {p = p} {x = x} {q = q} s h) = stays (enters p x q s) h

loops : (k : ℕ) → 1 ≤ k → {p q : ℕ} → Through m9 p (power (0 ∷ []) k) q → p ≡ q → ⊥
loops zero l t e = absurd (omega arith)
loops (suc k) l (accepting f h) e = false≢true (sym (ap (eqb 0) (e ∙ ends h)) ∙ f)
loops (suc k) l (marked s m h) e = false≢true m
loops (suc k) l (later {p = p} {x = x} {q = q} s t) e = never (enters p x q s) t

pub m9_rejects : Accepted m9 [] (0 ∷ []) → ⊥
m9_rejects c = loops c.k (omega arith) c.loop refl

-- ---- M8: the shortest loop takes two periods

abbrev pub m8 : Aut
m8 = spelled 1 ((0, 0, 1) ∷ (1, 0, 0) ∷ [])

pub m8_accepts : Accepted m8 [] (0 ∷ [])
m8_accepts = record { at = 1; i = 1; k = 2; some_round = omega arith; stem = move refl here; loop = accepting refl (move {q = 0} refl (move refl here)) }
