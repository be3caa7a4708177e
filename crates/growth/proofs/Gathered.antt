-- What is gathered from one number on, as a loop takes it. Assumes nothing.
use mathlib.Core.Path.{◌≡◌, refl, sym, ap, ap₂, ◌∙◌}
use mathlib.Core.List.{List, [], ◌++◌}
use Prim.Native.Nat.{ℕ, zero, suc, ◌+◌, ◌-◌, ◌≤◌, ◌<◌}
use native.Mathlib.Numerals.{add-one}
use native.Mathlib.Nat.{sub-zero}
use native.Mathlib.Omega.{arith}
use Rattle.growth.specs.Steps.{gather}

module _ {E : Type 0} (f : ℕ → List E) (n : ℕ) where
  pub gather_all : gather 0 n f ≡ gather 0 (n - 0) f
  gather_all = rw sub-zero

  pub gather_next : (i : ℕ) → i < n → gather i (n - i) f ≡ f i ++ gather (i + 1) (n - (i + 1)) f
  unfolding gather
  gather_next i h =
      let left : n - i ≡ suc (n - (i + 1)) = omega arith in
      ap (λ (k : ℕ). gather i k f) left ∙ ap (λ (j : ℕ). f i ++ gather j (n - (i + 1)) f) (sym (add-one i))

  pub gather_past : (i : ℕ) → i < n → f i ≡ [] → gather i (n - i) f ≡ gather (i + 1) (n - (i + 1)) f
  gather_past i h e = gather_next i h ∙ ap (λ (l : List E). l ++ gather (i + 1) (n - (i + 1)) f) e

  pub gather_over : (i : ℕ) → n ≤ i → gather i (n - i) f ≡ []
  unfolding gather
  gather_over i h = let none : n - i ≡ 0 = omega arith in ap (λ (k : ℕ). gather i k f) none

-- where there is nothing to gather
pub gather_nothing : {E : Type 0} (f : ℕ → List E) (i n : ℕ) → ((j : ℕ) → f j ≡ []) → gather i n f ≡ []
unfolding gather
gather_nothing f i zero h = refl
gather_nothing f i (suc n) h = ap₂ ◌++◌ (h i) (gather_nothing f (suc i) n h)
