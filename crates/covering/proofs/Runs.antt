-- Chains as linked lists: a place in one, an entry taken out after it, an entry put in front. Assumes nothing.
use mathlib.Core.Path.{◌≡◌, refl, ap, ◌∙◌}
use mathlib.Core.List.{List, [], ◌∷◌}
use Prim.Native.Nat.{ℕ, suc, ◌+◌, ◌≤◌, ◌<◌}
use native.Mathlib.Omega.{arith}
use borrow.Author.Tests.{eq-eqb, ne_eqb}
use lib.ListN.{length, get_or, set, length-set}
use lib.Seq.{get_or-set_same, get_or-set_other}
use Rattle.covering.specs.Chained.{times, Runs, ends, goes}

-- ---- how often an entry is in a list

pub times_here : (i : ℕ) (run : List ℕ) → times i (i ∷ run) ≡ suc (times i run)
unfolding times
times_here i run = rw (eq-eqb i i refl) (omega arith)

pub times_later : (j i : ℕ) (run : List ℕ) → times j run ≤ times j (i ∷ run)
unfolding times
times_later j i run = omega arith

pub times_other : (j i : ℕ) (run : List ℕ) → (j ≡ i → ⊥) → times j (i ∷ run) ≡ times j run
unfolding times
times_other j i run h = rw (ne_eqb j i h) (omega arith)

-- ---- a chain whose places keep what they have

pub runs_as : {chains chains' : List ℕ} {p p' : ℕ} {run : List ℕ} → Runs chains p run → get_or chains' p' 0 ≡ get_or chains p 0
    → ((j : ℕ) → 1 ≤ times j run → get_or chains' (16 + j) 0 ≡ get_or chains (16 + j) 0) → Runs chains' p' run
runs_as (ends e) h same = ends (h ∙ e)
runs_as (goes {i = i} {run = run} e r) h same = goes (h ∙ e) (runs_as r (same i (omega (arith, times_here i run))) (λ j l. same j (omega (arith, times_later j i run))))

-- ---- a place in a chain: the entries before it, the last one first

abbrev pub front : ℕ → List ℕ → ℕ
front q [] = q
front q (i ∷ done) = 16 + i

pub data Led (chains : List ℕ) (q : ℕ) : List ℕ → Type 0 where
  begun : Led chains q []
  led : {i : ℕ} {done : List ℕ} → get_or chains (front q done) 0 ≡ suc i → Led chains q done → Led chains q (i ∷ done)

-- those before, and those after
unfoldable pub back : List ℕ → List ℕ → List ℕ
back [] run = run
back (i ∷ done) run = back done (i ∷ run)

pub runs_back : {chains : List ℕ} {q : ℕ} {done run : List ℕ} → Led chains q done → Runs chains (front q done) run → Runs chains q (back done run)
unfolding back
runs_back begun r = r
runs_back (led e l) r = runs_back l (goes e r)

front_as : (chains chains' : List ℕ) (q : ℕ) (done : List ℕ) → get_or chains' q 0 ≡ get_or chains q 0
    → ((j : ℕ) → 1 ≤ times j done → get_or chains' (16 + j) 0 ≡ get_or chains (16 + j) 0) → get_or chains' (front q done) 0 ≡ get_or chains (front q done) 0
front_as chains chains' q [] h same = h
front_as chains chains' q (i ∷ done) h same = same i (omega (arith, times_here i done))

led_as : {chains chains' : List ℕ} {q : ℕ} {done : List ℕ} → Led chains q done → get_or chains' q 0 ≡ get_or chains q 0
    → ((j : ℕ) → 1 ≤ times j done → get_or chains' (16 + j) 0 ≡ get_or chains (16 + j) 0) → Led chains' q done
led_as begun h same = begun
led_as {chains} {chains'} {q} (led {i} {done} e l) h same =
    let below : (j : ℕ) → 1 ≤ times j done → get_or chains' (16 + j) 0 ≡ get_or chains (16 + j) 0 = λ j m. same j (omega (arith, times_later j i done)) in
    led (front_as chains chains' q done h below ∙ e) (led_as l h below)

-- an entry that is not before the place is not at it
front_not : (q j : ℕ) (done : List ℕ) → q < 16 → times j done ≡ 0 → 16 + j ≡ front q done → ⊥
front_not q j [] h z e = omega arith
front_not q j (i ∷ done) h z e =
    let same : j ≡ i = omega (arith, e) in
    let some = ap (λ (k : ℕ). times k (i ∷ done)) same in omega (arith, z, some, times_here i done)

-- ---- an entry taken out, and one put in front

module _ {chains : List ℕ} {q : ℕ} (low : q < 16) where
  pub unlinked_led : (v : ℕ) {done : List ℕ} → Led chains q done → ((j : ℕ) → times j done ≤ 1) → Led (set chains (front q done) v) q done
  unlinked_led v begun once = begun
  unlinked_led v (led {i} {done} e l) once =
      let above : get_or (set chains (16 + i) v) q 0 ≡ get_or chains q 0 = get_or-set_other chains (16 + i) q v 0 (λ p. omega arith) in
      led (front_as chains (set chains (16 + i) v) q done above same ∙ e) (led_as l above same)
    where
      same : (j : ℕ) → 1 ≤ times j done → get_or (set chains (16 + i) v) (16 + j) 0 ≡ get_or chains (16 + j) 0
      same j m = get_or-set_other chains (16 + i) (16 + j) v 0 (λ p. omega (arith, m, once i, times_here i done, twice (omega arith)))
        where
          twice : j ≡ i → times j done ≡ times i done
          twice e = ap (λ (k : ℕ). times k done) e

  pub unlinked_runs : {i : ℕ} (done : List ℕ) {run : List ℕ} → Runs chains (front q done) (i ∷ run) → ((j : ℕ) → 1 ≤ times j run → times j done ≡ 0) → front q done < length chains
      → Runs (set chains (front q done) (get_or chains (16 + i) 0)) (front q done) run
  unlinked_runs {i} done (goes e r) free l =
      runs_as r (get_or-set_same chains (front q done) (get_or chains (16 + i) 0) 0 l)
      (λ j m. get_or-set_other chains (front q done) (16 + j) (get_or chains (16 + i) 0) 0 (front_not q j done low (free j m)))

  pub pushed : {i : ℕ} {run : List ℕ} → Runs chains q run → times i run ≡ 0 → 16 + i < length chains
      → Runs (set (set chains (16 + i) (get_or chains q 0)) q (suc i)) q (i ∷ run)
  pushed {i} {run} r free l = goes (get_or-set_same more q (suc i) 0 (omega (arith, length-set chains (16 + i) (get_or chains q 0)))) (runs_as r here there)
    where
      more : List ℕ
      more = set chains (16 + i) (get_or chains q 0)

      here : get_or (set more q (suc i)) (16 + i) 0 ≡ get_or chains q 0
      here = get_or-set_other more q (16 + i) (suc i) 0 (λ e. omega arith) ∙ get_or-set_same chains (16 + i) (get_or chains q 0) 0 l

      there : (j : ℕ) → 1 ≤ times j run → get_or (set more q (suc i)) (16 + j) 0 ≡ get_or chains (16 + j) 0
      there j m =
          get_or-set_other more q (16 + j) (suc i) 0 (λ e. omega arith)
          ∙ get_or-set_other chains (16 + i) (16 + j) (get_or chains q 0) 0 (λ e. omega (arith, m, free, same (omega arith)))
        where
          same : j ≡ i → times j run ≡ times i run
          same e = ap (λ (k : ℕ). times k run) e
