-- Lists by their elements: `values f n` has f i at each place i below n, and a loop that fills an array from the front makes it. Assumes nothing.
use mathlib.Core.List.{List, [], ◌∷◌, ◌++◌}
use mathlib.Core.Logic.{⊎_elim}
use mathlib.Core.Path.{◌≡◌, refl, sym, ap, ap₂, ◌∙◌}
use Prim.Native.Nat.{ℕ, zero, suc, ◌+◌, ◌<◌}
use native.Mathlib.Decide.{ℕ_discrete}
use native.Mathlib.Nat.{eq-or-lt_of_le, le_of_suc-le-suc}
use native.Mathlib.Omega.{arith}
use lib.ListN.{length, get_or, set, length-append, length-set, get_or-append}
use lib.Seq.{ext_get_or, get_or_at, get_or-set_same, get_or-set_other}
use Rattle.bits.specs.Bits.{values}

module _ {A : Type 0} where
  pub values_length : (f : ℕ → A) (n : ℕ) → length (values f n) ≡ n
  unfolding values
  values_length f zero = refl
  values_length f (suc n) = length-append (values f n) (f n ∷ []) ∙ omega (arith, values_length f n)

  pub values_at : (f : ℕ → A) (n i : ℕ) (d : A) → i < n → get_or (values f n) i d ≡ f i
  unfolding values
  values_at f zero i d h = absurd (omega arith)
  values_at f (suc n) i d h =
      ⊎_elim
      (λ (e : i ≡ n). get_or_at (values f n) (f n) [] d i (values_length f n ∙ sym e) ∙ ap f (sym e))
      (λ l. get_or-append (values f n) (f n ∷ []) d i (omega (arith, values_length f n)) ∙ values_at f n i d l)
      (eq-or-lt_of_le (le_of_suc-le-suc h))

  pub values_cong : (f g : ℕ → A) (n : ℕ) → ((i : ℕ) → i < n → f i ≡ g i) → values f n ≡ values g n
  unfolding values
  values_cong f g zero same = refl
  values_cong f g (suc n) same =
      ap₂ (λ (l : List A) (x : A). l ++ (x ∷ [])) (values_cong f g n (λ i h. same i (omega arith))) (same n (omega arith))

  -- a list of n elements is known by them
  pub values_is : (d : A) (f : ℕ → A) (n : ℕ) (l : List A) → length l ≡ n → ((i : ℕ) → i < n → get_or l i d ≡ f i) → l ≡ values f n
  values_is d f n l long same =
      ext_get_or d l (values f n) (long ∙ sym (values_length f n))
      (λ i h. same i (omega arith) ∙ sym (values_at f n i d (omega arith)))

  -- an element that is set, of a list that has the others already
  set_at : (l : List A) (i : ℕ) (y d : A) (g : ℕ → A) → i < length l → y ≡ g i
      → (j : ℕ) → ((j ≡ i → ⊥) → get_or l j d ≡ g j) → Dec (j ≡ i) → get_or (set l i y) j d ≡ g j
  set_at l i y d g h here j there (yes e) =
      ap (λ (k : ℕ). get_or (set l i y) k d) e ∙ get_or-set_same l i y d h ∙ here ∙ ap g (sym e)
  set_at l i y d g h here j there (no ne) = get_or-set_other l i j y d ne ∙ there ne

  pub values_set : (f g : ℕ → A) (n i : ℕ) (y : A) → i < n → y ≡ g i → ((j : ℕ) → (j ≡ i → ⊥) → f j ≡ g j) → set (values f n) i y ≡ values g n
  values_set f g n i y h here there =
      values_is y g n (set (values f n) i y) (length-set (values f n) i y ∙ values_length f n)
      (λ j l.
      set_at (values f n) i y y g (omega (arith, values_length f n)) here j (λ ne. values_at f n j y l ∙ there j ne) (ℕ_discrete j i))

  -- ---- a loop that fills an array of n elements from the front: those below q are there

  pub record Filled (d : A) (f : ℕ → A) (n : ℕ) (out : List A) (q : ℕ) : Type 0 where
    pub long : length out ≡ n
    pub below : (i : ℕ) → i < q → get_or out i d ≡ f i

  pub filled_none : (d : A) (f : ℕ → A) (n : ℕ) (out : List A) → length out ≡ n → Filled d f n out 0
  filled_none d f n out l = record { long = l; below = λ i h. absurd (omega arith) }

  pub filled_more : (d : A) (f : ℕ → A) (n : ℕ) (out : List A) (q : ℕ) (y : A) → Filled d f n out q → q < n → y ≡ f q → Filled d f n (set out q y) (q + 1)
  filled_more d f n out q y fill h e =
      record {
        long = length-set out q y ∙ fill.long;
        below = λ i l. set_at out q y d f (omega (arith, fill.long)) e i (λ (ne : i ≡ q → ⊥). fill.below i (omega arith)) (ℕ_discrete i q);
      }

  pub filled_all : (d : A) (f : ℕ → A) (n : ℕ) (out : List A) (q : ℕ) → Filled d f n out q → q ≡ n → out ≡ values f n
  filled_all d f n out q fill e = values_is d f n out fill.long (λ i h. fill.below i (omega arith))
