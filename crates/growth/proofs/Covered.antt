-- What covers a candidate. Assumes nothing.
use mathlib.Core.Path.{◌≡◌, refl, sym, ◌∙◌}
use mathlib.Core.Bool.{Bool, true, false, ◌||◌, or-true, true≢false, false≢true}
use mathlib.Core.List.{List, [], ◌∷◌}
use Prim.Native.Nat.{ℕ, suc}
use Rattle.growth.specs.Grow.{covered}
use Rattle.growth.proofs.Entries.{At, at_head, at_tail, at_left}
use Rattle.growth.proofs.Grown.{Extends}

module _ {E : Type 0} (covers : E → E → Bool) where
  -- a covered candidate has an entry that covers it
  pub covering : (t : List E) (c : E) → covered covers t c ≡ true → (i : ℕ) × (e : E) × At t i e × (covers e c ≡ true)
  covering [] c h = absurd (false≢true h)
  covering (x ∷ t) c h = at (covers x c) refl (covering t c) h
    where
      at : (b : Bool) → covers x c ≡ b → (covered covers t c ≡ true → (i : ℕ) × (e : E) × At t i e × (covers e c ≡ true))
          → (b || covered covers t c) ≡ true → (i : ℕ) × (e : E) × At (x ∷ t) i e × (covers e c ≡ true)
      at true p ih h = (0, x, at_head, p)
      at false p ih h = let (i, e, a, q) = ih h in (suc i, e, at_tail a, q)

  pub covered_by : {t : List E} {i : ℕ} {e : E} (c : E) → At t i e → covers e c ≡ true → covered covers t c ≡ true
  covered_by c at_head p = rw p
  covered_by c (at_tail {d = x} a) p = rw (covered_by c a p) (or-true (covers x c))

  -- a longer table covers no less
  pub kept : {t s : List E} → Extends t s → (c : E) → covered covers t c ≡ true → covered covers s c ≡ true
  kept {t} f c p = let (i, e, a, q) = covering t c p in rw (← f.joined) (covered_by c (at_left f.rest a) q)

  -- no entry covers one that is not covered
  pub uncovered : {t : List E} {i : ℕ} {d : E} (c : E) → covered covers t c ≡ false → At t i d → covers d c ≡ false
  uncovered {t} {d = d} c p a = at (covers d c) (covered_by c a)
    where
      at : (b : Bool) → (b ≡ true → covered covers t c ≡ true) → b ≡ false
      at true f = absurd (true≢false (sym (f refl) ∙ p))
      at false f = refl
