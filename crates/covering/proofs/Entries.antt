-- The lent tables and the entries that they hold, one from the other. Assumes nothing.
use mathlib.Core.Path.{◌≡◌, refl, sym, ap, ap₂, ◌∙◌}
use mathlib.Core.List.{List, [], ◌∷◌, ◌++◌, map-append, append_assoc}
use Prim.Native.Nat.{ℕ, zero, suc, ◌+◌, ◌*◌, ◌≤◌, ◌<◌}
use native.Mathlib.Numerals.{add-one}
use native.Mathlib.Omega.{arith}
use lib.ListN.{length, get_or, take, length-map, get_or-map}
use lib.Seq.{take-suc}
use Rattle.bits.specs.Bits.{values}
use Rattle.bits.proofs.Values.{values_length, values_at, values_is}
use Rattle.acceptance.specs.Contexts.{Context}
use Rattle.growth.specs.Lent.{over}
use Rattle.growth.proofs.Offering.{get_d_over}
use Rattle.covering.specs.Entries.{Period, links_of, contexts_of, context_in, entry_in, held}

-- ---- the contexts' numbers

pub contexts_length : (es : List Period) → length (contexts_of es) ≡ 2 * length es
unfolding contexts_of
contexts_length [] = refl
contexts_length (e ∷ es) = omega (arith, contexts_length es)

pub contexts_append : (s t : List Period) → contexts_of (s ++ t) ≡ contexts_of s ++ contexts_of t
unfolding contexts_of
contexts_append [] t = refl
contexts_append (e ∷ s) t = ap (λ (l : List ℕ). e.context.reach ∷ e.context.through ∷ l) (contexts_append s t)

-- the context of entry i is at 2i and 2i + 1
contexts_at : (es : List Period) (i : ℕ) (d : Period) → i < length es → context_in (contexts_of es) i ≡ (get_or es i d).context
unfolding contexts_of
contexts_at [] i d h = absurd (omega arith)
contexts_at (e ∷ es) zero d h = refl
contexts_at (e ∷ es) (suc i) d h =
    ap₂ (λ (j k : ℕ). record { reach = get_or (contexts_of (e ∷ es)) j 0; through = get_or (contexts_of (e ∷ es)) k 0 }) even odd
    ∙ contexts_at es i d (omega arith)
  where
    even : 2 * suc i ≡ suc (suc (2 * i))
    even = omega arith

    odd : 2 * suc i + 1 ≡ suc (suc (2 * i + 1))
    odd = omega arith

-- ---- the entries that are held

module _ (links contexts : List ℕ) where
  pub held_length : (n : ℕ) → length (held n links contexts) ≡ n
  unfolding held
  held_length n = values_length (entry_in links contexts) n

  pub held_at : (n i : ℕ) (d : Period) → i < n → get_or (held n links contexts) i d ≡ entry_in links contexts i
  unfolding held
  held_at n i d h = values_at (entry_in links contexts) n i d h

  pub links_held : (n : ℕ) → n ≤ length links → links_of (held n links contexts) ≡ take n links
  unfolding held values
  links_held zero l = refl
  links_held (suc n) l =
      map-append (λ (e : Period). e.link) (held n links contexts) (entry_in links contexts n ∷ [])
      ∙ ap (λ (s : List ℕ). s ++ (get_or links n 0 ∷ [])) (links_held n (omega arith)) ∙ sym (take-suc links n 0 l)

  pub contexts_held : (n : ℕ) → 2 * n ≤ length contexts → contexts_of (held n links contexts) ≡ take (2 * n) contexts
  unfolding held values contexts_of
  contexts_held zero l = refl
  contexts_held (suc n) l =
      contexts_append (held n links contexts) (entry_in links contexts n ∷ [])
      ∙ ap₂ (λ (s : List ℕ) (k : ℕ). s ++ (get_or contexts (2 * n) 0 ∷ get_or contexts k 0 ∷ [])) (contexts_held n (omega arith)) (add-one (2 * n))
      ∙ sym (append_assoc (take (2 * n) contexts) (get_or contexts (2 * n) 0 ∷ []) (get_or contexts (suc (2 * n)) 0 ∷ []))
      ∙ ap (λ (s : List ℕ). s ++ (get_or contexts (suc (2 * n)) 0 ∷ [])) (sym (take-suc contexts (2 * n) 0 (omega arith)))
      ∙ sym (take-suc contexts (suc (2 * n)) 0 (omega arith)) ∙ ap (λ (k : ℕ). take k contexts) even
    where
      even : suc (suc (2 * n)) ≡ 2 * suc n
      even = omega arith

-- tables into which entries were written hold them
pub held_over : (es : List Period) (links contexts : List ℕ) → held (length es) (over (links_of es) links) (over (contexts_of es) contexts) ≡ es
unfolding held
held_over es links contexts = sym (values_is none (entry_in (over (links_of es) links) (over (contexts_of es) contexts)) (length es) es refl same)
  where
    none : Period
    none = record { link = 0; context = record { reach = 0; through = 0 } }

    context : (i : ℕ) → i < length es → context_in (over (contexts_of es) contexts) i ≡ (get_or es i none).context
    context i h =
        ap₂ (λ (j k : ℕ). record { reach = j; through = k })
        (get_d_over (contexts_of es) contexts (2 * i) 0 (omega (arith, contexts_length es))) (get_d_over (contexts_of es) contexts (2 * i + 1) 0 (omega (arith, contexts_length es)))
        ∙ contexts_at es i none h

    link : (i : ℕ) → i < length es → get_or (over (links_of es) links) i 0 ≡ (get_or es i none).link
    link i h = get_d_over (links_of es) links i 0 (omega (arith, length-map es (λ (e : Period). e.link))) ∙ get_or-map (λ (e : Period). e.link) es i none

    same : (i : ℕ) → i < length es → get_or es i none ≡ entry_in (over (links_of es) links) (over (contexts_of es) contexts) i
    same i h = sym (ap₂ (λ (j : ℕ) (c : Context). record { link = j; context = c }) (link i h) (context i h))
