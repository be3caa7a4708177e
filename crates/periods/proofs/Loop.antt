-- The loop over the numbers below k that offers, for each in turn, its candidates. Assumes nothing.
use mathlib.Core.Path.{◌≡◌, sym, ap, ap₂, ◌∙◌, subst}
use mathlib.Core.List.{List, [], ◌++◌}
use Prim.Native.Nat.{ℕ, zero, suc, ◌+◌, ◌-◌, ◌≤◌, ◌<◌}
use native.Mathlib.Nat.{sub-zero}
use native.Mathlib.Omega.{arith}
use Rattle.std.specs.Prelude.{Result, Ok, Err, IsErr}
use Rattle.growth.specs.declared.Full.{Full}
use Rattle.growth.specs.Grow.{Outcome, onward, offer}
use Rattle.growth.specs.Steps.{gather}
use Rattle.growth.proofs.Offering.{gather_on, gather_done}
use Rattle.covering.specs.Entries.{Period}
use Rattle.covering.specs.Masks.{covers}
use Rattle.offering.specs.declared.Table.{Table}
use Rattle.offering.specs.Growing.{entries_of, Ready, Grows}
use Rattle.periods.proofs.Going.{Going, going, going_as, going_end, going_full, going_on}

-- none of the first d
gather_past : (f : ℕ → List Period) (i d k m : ℕ) → m ≡ d + k → ((j : ℕ) → i ≤ j → j < i + d → f j ≡ []) → gather i m f ≡ gather (i + d) k f
unfolding gather
gather_past f i zero k m e h = ap₂ (λ (j n : ℕ). gather j n f) (omega arith) (omega arith)
gather_past f i (suc d) k zero e h = absurd (omega arith)
gather_past f i (suc d) k (suc m) e h =
    ap₂ ◌++◌ (h i (omega arith) (omega arith)) (gather_past f (suc i) d k m (omega arith) (λ j l s. h j (omega arith) (omega arith)))
    ∙ ap (λ (j : ℕ). gather j k f) (omega arith)

module _ (f : ℕ → List Period) (k : ℕ) (s : Table) where
  -- what the numbers from i on give
  unfoldable pub from : ℕ → List Period → Outcome Period
  from i es = offer (covers s.rows) s.room es (gather i (k - i) f)

  pub loop_start : Ready s → Going (offer (covers s.rows) s.room (entries_of s) (gather 0 k f)) (from 0) s s
  unfolding from
  loop_start ready =
      subst (λ (j : ℕ). Going (offer (covers s.rows) s.room (entries_of s) (gather 0 j f)) (from 0) s s) (sub-zero k) (going ready (from 0))

  module _ (i : ℕ) {o : Outcome Period} {t : Table} (at : Going o (from i) s t) where
    pub loop_end : k ≤ i → Grows o (Ok tt) s t
    unfolding from
    loop_end h = going_end at (gather_done (covers s.rows) s.room f k i (entries_of t) h)

    -- the numbers from i to j have none
    pub loop_past : (j : ℕ) → i ≤ j → j ≤ k → ((m : ℕ) → i ≤ m → m < j → f m ≡ []) → Going o (from j) s t
    unfolding from
    loop_past j l h none =
        going_as at (from j) (ap (offer (covers s.rows) s.room (entries_of t))
        (sym (gather_past f i (j - i) (k - j) (k - i) (omega arith) (λ m l h. none m l (omega arith)) ∙ ap (λ (m : ℕ). gather m (k - j) f) (omega arith))))

    pub loop_skip : i < k → f i ≡ [] → Going o (from (i + 1)) s t
    loop_skip h none = loop_past (i + 1) (omega arith) (omega arith) (λ m l h. let e : m ≡ i = omega arith in ap f e ∙ none)

    -- i has these
    module _ (h : i < k) {cs : List Period} (same : cs ≡ f i) {r : Result (Unit {0}) Full} {t' : Table} (g : Grows (offer (covers t.rows) t.room (entries_of t) cs) r t t') where
      split : from i (entries_of t) ≡ onward (offer (covers s.rows) s.room (entries_of t) cs) (from (i + 1))
      unfolding from
      split =
          gather_on (covers s.rows) s.room f k i (entries_of t) h
          ∙ ap (λ (c : List Period). onward (offer (covers s.rows) s.room (entries_of t) c) (from (i + 1))) (sym same)

      pub loop_full : {q : Result (Unit {0}) Full} {lacks : Full} → r ≡ Err lacks → IsErr q → Grows o q s t'
      loop_full = going_full at cs (from (i + 1)) split g

      pub loop_on : r ≡ Ok tt → Going o (from (i + 1)) s t'
      loop_on = going_on at cs (from (i + 1)) split g
