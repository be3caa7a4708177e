-- The letters along a chain of parents, for stems and links at once: one letter more than the parent's, at most as many as there are entries.
-- Assumes nothing.
use mathlib.Core.Path.{◌≡◌, refl, sym, ap, ◌∙◌}
use mathlib.Core.Logic.{◌⊎◌, inl, inr}
use mathlib.Core.Bool.{Bool, true, false, cond}
use mathlib.Core.List.{List, [], ◌∷◌, ◌++◌}
use Prim.Native.Nat.{ℕ, zero, suc, ◌+◌, ◌-◌, ◌≤◌, ◌<◌}
use native.Mathlib.Omega.{arith}
use borrow.Author.Tests.{eqb-false, ne_eqb}
use lib.Dec.{eqb}
use lib.ListN.{length, get_or, length-append}
use Rattle.acceptance.specs.Lasso.{Word}
use Rattle.walk.specs.Words.{top_of, parent_of, letter_of, chain, word_of}
use Rattle.walk.proofs.Reading.{chain_top}
use Rattle.spelling.specs.Written.{Backward}

module _ (links : Bool) (t : List ℕ) where
  -- the letters from i up to the top: no way is longer than the table
  unfoldable pub spelled : ℕ → Word
  spelled i = chain links t (length t) i

  -- the top, or an entry below n
  abbrev pub Inside : ℕ → ℕ → Type 0
  Inside n i = (i ≡ top_of links) ⊎ (i < n)

  inside_below : {n i : ℕ} → Inside n i → eqb i (top_of links) ≡ false → i < n
  inside_below {i = i} (inl e) h = absurd (eqb-false i (top_of links) h e)
  inside_below (inr l) h = l

  chain_length : (f i : ℕ) → length (chain links t f i) ≤ f
  unfolding chain
  chain_length zero i = omega arith
  chain_length (suc f) i = at (eqb i (top_of links)) (chain_length f (parent_of links (get_or t i 0)))
    where
      at : (b : Bool) → length (chain links t f (parent_of links (get_or t i 0))) ≤ f
          → length (cond b [] (chain links t f (parent_of links (get_or t i 0)) ++ (letter_of links (get_or t i 0) ∷ []))) ≤ suc f
      at true ih = omega arith
      at false ih = simp length-append (omega arith)

  module _ (back : Backward links t) where
    parent_inside : (i : ℕ) {m : ℕ} → i < length t → i ≤ m → eqb i (top_of links) ≡ false → Inside m (parent_of links (get_or t i 0))
    parent_inside i {m} l k h = at (back.parents i l h)
      where
        at : {p : ℕ} → (p ≡ top_of links) ⊎ (p < i) → Inside m p
        at (inl e) = inl e
        at (inr j) = inr (omega arith)

    -- a way that is long enough may be longer
    chain_more : (f i : ℕ) → f ≤ length t → Inside f i → chain links t f i ≡ chain links t (suc f) i
    unfolding chain
    chain_more zero i l h = sym (chain_top links t 1 (none h))
      where
        none : Inside 0 i → i ≡ top_of links
        none (inl e) = e
        none (inr k) = absurd (omega arith)
    chain_more (suc f) i l h =
        at (eqb i (top_of links)) refl (λ e. let k = inside_below h e in chain_more f (parent_of links (get_or t i 0)) (omega arith) (parent_inside i (omega arith) (omega arith) e))
      where
        at : (b : Bool) → eqb i (top_of links) ≡ b → (eqb i (top_of links) ≡ false → chain links t f (parent_of links (get_or t i 0)) ≡ chain links t (suc f) (parent_of links (get_or t i 0)))
            → cond b [] (chain links t f (parent_of links (get_or t i 0)) ++ (letter_of links (get_or t i 0) ∷ [])) ≡ cond b [] (chain links t (suc f) (parent_of links (get_or t i 0)) ++ (letter_of links (get_or t i 0) ∷ []))
        at true h ih = refl
        at false h ih = ap (λ (w : Word). w ++ (letter_of links (get_or t i 0) ∷ [])) (ih h)

    chain_up : (k f i : ℕ) → f + k ≡ length t → Inside f i → chain links t f i ≡ spelled i
    unfolding spelled
    chain_up zero f i e h = ap (λ (n : ℕ). chain links t n i) (omega arith)
    chain_up (suc k) f i e h = chain_more f i (omega arith) h ∙ chain_up k (suc f) i (omega arith) (later h)
      where
        later : Inside f i → Inside (suc f) i
        later (inl e) = inl e
        later (inr l) = inr (omega arith)

    pub spelled_word : (i : ℕ) → i < length t → spelled i ≡ word_of links t i
    spelled_word i l = sym (chain_up (length t - suc i) (suc i) i (omega arith) (inr (omega arith)))

    -- ---- what the loops go by: a step up from an entry, and the top

    spelled_step : (i : ℕ) → i < length t → eqb i (top_of links) ≡ false → spelled i ≡ spelled (parent_of links (get_or t i 0)) ++ (letter_of links (get_or t i 0) ∷ [])
    unfolding spelled chain
    spelled_step i l h = at (length t) refl
      where
        at : (n : ℕ) → length t ≡ n → chain links t n i ≡ chain links t n (parent_of links (get_or t i 0)) ++ (letter_of links (get_or t i 0) ∷ [])
        at zero e = absurd (omega arith)
        at (suc n) e =
            rw (h, chain) (ap (λ (w : Word). w ++ (letter_of links (get_or t i 0) ∷ [])) (chain_more n (parent_of links (get_or t i 0)) (omega arith) (parent_inside i l (omega arith) h)))

    pub record Step (i : ℕ) : Type 0 where
      pub low : i < length t
      pub up : Inside (length t) (parent_of links (get_or t i 0))
      pub word : spelled i ≡ spelled (parent_of links (get_or t i 0)) ++ (letter_of links (get_or t i 0) ∷ [])
      pub count : length (spelled i) ≡ length (spelled (parent_of links (get_or t i 0))) + 1

    -- `top` is where the loops end
    pub step : {i top : ℕ} → Inside (length t) i → top ≡ top_of links → (i ≡ top → ⊥) → Step i
    step {i} inside is other =
        let h : eqb i (top_of links) ≡ false = ne_eqb i (top_of links) (λ e. other (e ∙ sym is)) in
        let l : i < length t = inside_below inside h in
        let w = spelled_step i l h in
        record { low = l; up = parent_inside i l (omega arith) h; word = w; count = ap length w ∙ length-append (spelled (parent_of links (get_or t i 0))) (letter_of links (get_or t i 0) ∷ []) }

    -- so a letter is left, and then one fewer
    pub one_left : {i top free : ℕ} → Inside (length t) i → top ≡ top_of links → (i ≡ top → ⊥) → free ≡ length (spelled i) → 1 ≤ free
    one_left inside is other same = let up = step inside is other in omega (arith, up.count)

    pub one_fewer : {i p top : ℕ} → Inside (length t) i → top ≡ top_of links → (i ≡ top → ⊥) → p ≡ parent_of links (get_or t i 0) → length (spelled p) < length (spelled i)
    one_fewer inside is other same = let up = step inside is other in rw same (omega (arith, up.count))

  pub spelled_top : {i : ℕ} → i ≡ top_of links → spelled i ≡ []
  unfolding spelled
  spelled_top e = chain_top links t (length t) e

  pub spelled_length : (i : ℕ) → length (spelled i) ≤ length t
  unfolding spelled
  spelled_length i = chain_length (length t) i
