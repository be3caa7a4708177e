-- `any` and `all`: some number below n, every number below n. Assumes nothing.
use mathlib.Core.Bool.{Bool, true, false, not, ◌&&◌, ◌||◌, false≢true}
use mathlib.Core.Logic.{⊎_elim}
use mathlib.Core.Path.{◌≡◌, refl, sym, ap, ap₂, ◌∙◌}
use Prim.Native.Nat.{ℕ, zero, suc, ◌<◌}
use native.Mathlib.Nat.{eq-or-lt_of_le, le_of_suc-le-suc}
use native.Mathlib.Omega.{arith}
use Rattle.bits.specs.Bits.{any, all}
use Rattle.bits.proofs.Truth.{and_left, and_right, and_both, or_left, or_right, or_cases, not_or}

pub any_intro : (f : ℕ → Bool) (n i : ℕ) → i < n → f i ≡ true → any f n ≡ true
unfolding any
any_intro f zero i l e = absurd (omega arith)
any_intro f (suc n) i l e =
    ⊎_elim
    (λ (h : i ≡ n). or_right (any f n) (f n) (ap f (sym h) ∙ e))
    (λ h. or_left (any f n) (f n) (any_intro f n i h e))
    (eq-or-lt_of_le (le_of_suc-le-suc l))

pub any_elim : (f : ℕ → Bool) (n : ℕ) → any f n ≡ true → (i : ℕ) × (i < n) × (f i ≡ true)
unfolding any
any_elim f zero e = absurd (false≢true e)
any_elim f (suc n) e =
    ⊎_elim
    (λ h. let w = any_elim f n h in (w.0, omega arith, w.2))
    (λ h. (n, omega arith, h))
    (or_cases (any f n) (f n) e)

pub any_cong : (f g : ℕ → Bool) (n : ℕ) → ((i : ℕ) → i < n → f i ≡ g i) → any f n ≡ any g n
unfolding any
any_cong f g zero same = refl
any_cong f g (suc n) same = ap₂ ◌||◌ (any_cong f g n (λ i h. same i (omega arith))) (same n (omega arith))

pub any_none : (f : ℕ → Bool) (n : ℕ) → ((i : ℕ) → i < n → f i ≡ false) → any f n ≡ false
unfolding any
any_none f zero none = refl
any_none f (suc n) none = ap₂ ◌||◌ (any_none f n (λ i h. none i (omega arith))) (none n (omega arith))

pub all_intro : (f : ℕ → Bool) (n : ℕ) → ((i : ℕ) → i < n → f i ≡ true) → all f n ≡ true
unfolding all
all_intro f zero h = refl
all_intro f (suc n) h = and_both (all f n) (f n) (all_intro f n (λ i l. h i (omega arith))) (h n (omega arith))

pub all_elim : (f : ℕ → Bool) (n i : ℕ) → all f n ≡ true → i < n → f i ≡ true
unfolding all
all_elim f zero i e l = absurd (omega arith)
all_elim f (suc n) i e l =
    ⊎_elim
    (λ (h : i ≡ n). ap f h ∙ and_right (all f n) (f n) e)
    (λ h. all_elim f n i (and_left (all f n) (f n) e) h)
    (eq-or-lt_of_le (le_of_suc-le-suc l))

pub all_cong : (f g : ℕ → Bool) (n : ℕ) → ((i : ℕ) → i < n → f i ≡ g i) → all f n ≡ all g n
unfolding all
all_cong f g zero same = refl
all_cong f g (suc n) same = ap₂ ◌&&◌ (all_cong f g n (λ i h. same i (omega arith))) (same n (omega arith))

pub not_any : (f : ℕ → Bool) (n : ℕ) → not (any f n) ≡ all (λ i. not (f i)) n
unfolding any all
not_any f zero = refl
not_any f (suc n) = not_or (any f n) (f n) ∙ ap (λ (b : Bool). b && not (f n)) (not_any f n)
