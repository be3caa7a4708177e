-- The entries before a place of a chain and those after it, taken together: how often, how many, and what they cover. Assumes nothing.
use mathlib.Core.Path.{◌≡◌, refl, sym, ap, ◌∙◌}
use mathlib.Core.Bool.{Bool, true, false, ◌||◌, false≢true}
use mathlib.Core.List.{List, [], ◌∷◌, map}
use Prim.Native.Nat.{ℕ, zero, suc, ◌+◌, ◌≤◌, ◌<◌}
use native.Mathlib.Omega.{arith}
use lib.ListN.{length, get_or}
use Rattle.growth.specs.Grow.{covered}
use Rattle.covering.specs.Entries.{Period}
use Rattle.covering.specs.Chained.{entry_at, times, Runs, ends, goes}
use Rattle.covering.proofs.Runs.{back}

-- ---- those before a place and those after it

pub times_back : (j : ℕ) (done run : List ℕ) → times j (back done run) ≡ times j done + times j run
unfolding times back
times_back j [] run = omega arith
times_back j (i ∷ done) run = omega (arith, times_back j done (i ∷ run))

pub times_front : (j i : ℕ) (done run : List ℕ) → times j (i ∷ back done run) ≡ times j done + times j (i ∷ run)
unfolding times
times_front j i done run = omega (arith, times_back j done run)

pub length_back : (done run : List ℕ) → length (back done run) ≡ length done + length run
unfolding back
length_back [] run = omega arith
length_back (i ∷ done) run = omega (arith, length_back done (i ∷ run))

-- ---- truth values

pub swapped : (D F R : Bool) → (D || (F || R)) ≡ ((F || D) || R)
swapped true true R = refl
swapped true false R = refl
swapped false true R = refl
swapped false false R = refl

pub dropped : (G D F R : Bool) → (F ≡ true → G ≡ true) → (G || (D || (F || R))) ≡ (G || (D || R))
dropped true D F R h = refl
dropped false D true R h = absurd (false≢true (h refl))
dropped false D false R h = refl

pub found : (G T D E R : Bool) → (G || T) ≡ (G || (D || (E || R))) → (G ≡ true → E ≡ true) → (E ≡ true → T ≡ true) → T ≡ (E || (D || R))
found true T D E R e g h = h (g refl) ∙ sym (ap (λ (b : Bool). b || (D || R)) (g refl))
found false T true true R e g h = e
found false T true false R e g h = e
found false T false true R e g h = e
found false T false false R e g h = e

pub covered_back : (covers : Period → Period → Bool) (t : List Period) (d : Period) (done run : List ℕ)
    → covered covers (map (entry_at t) (back done run)) d ≡ (covered covers (map (entry_at t) done) d || covered covers (map (entry_at t) run) d)
unfolding back
covered_back covers t d [] run = refl
covered_back covers t d (i ∷ done) run =
    covered_back covers t d done (i ∷ run)
    ∙ swapped (covered covers (map (entry_at t) done) d) (covers (entry_at t i) d) (covered covers (map (entry_at t) run) d)

-- an entry covers what the table covers
pub covered_at : (covers : Period → Period → Bool) (t : List Period) (i : ℕ) (d : Period) → i < length t → covers (entry_at t i) d ≡ true → covered covers t d ≡ true
unfolding entry_at
covered_at covers [] i d l e = absurd (omega arith)
covered_at covers (f ∷ t) zero d l e = ap (λ (b : Bool). b || covered covers t d) e
covered_at covers (f ∷ t) (suc i) d l e = after (covers f d) (covered_at covers t i d (omega arith) e)
  where
    after : (b : Bool) → covered covers t d ≡ true → (b || covered covers t d) ≡ true
    after true h = refl
    after false h = h

-- ---- how many entries follow a place

pub runs_none : {chains : List ℕ} {p : ℕ} → Runs chains p [] → get_or chains p 0 ≡ 0
runs_none (ends e) = e

pub runs_some : {chains : List ℕ} {p i : ℕ} {run : List ℕ} → Runs chains p (i ∷ run) → get_or chains p 0 ≡ suc i
runs_some (goes e r) = e

pub runs_rest : {chains : List ℕ} {p i : ℕ} {run : List ℕ} → Runs chains p (i ∷ run) → Runs chains (16 + i) run
runs_rest (goes e r) = r

unfoldable pub following : ℕ → List ℕ → ℕ → ℕ
following zero chains p = 0
following (suc f) chains p = elim (get_or chains p 0) [ zero ↦ 0 | suc i ↦ suc (following f chains (16 + i)) ]

pub following_is : (f : ℕ) {chains : List ℕ} {p : ℕ} {run : List ℕ} → Runs chains p run → length run ≤ f → following f chains p ≡ length run
unfolding following
following_is zero (ends e) l = refl
following_is zero (goes e r) l = absurd (omega arith)
following_is (suc f) (ends e) l = rw (e, following)
following_is (suc f) (goes e r) l = rw (e, following) (ap suc (following_is f r (omega arith)))
