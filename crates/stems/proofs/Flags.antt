-- One look at a flag tells whether a candidate is covered, and the flags stay right as entries are appended. Assumes nothing.
use mathlib.Core.Path.{◌≡◌, refl, sym, ap, ap₂, ◌∙◌}
use mathlib.Core.Bool.{Bool, true, false, ◌&&◌, ◌||◌, and-true, and-false, or_comm}
use mathlib.Core.List.{List, [], ◌∷◌, ◌++◌}
use Prim.Native.Nat.{ℕ, ◌+◌, ◌*◌, ◌/◌, ◌%◌, ◌<◌}
use native.Mathlib.Decide.{ℕ_discrete}
use native.Mathlib.Omega.{arith}
use lib.Dec.{eqb, ltb}
use lib.ListN.{length, get_or, set, replicate, length-set, length-replicate, get_or-replicate}
use lib.Seq.{get_or-set_same, get_or-set_other}
use borrow.Author.Tests.{ltb-true, lt-ltb, le-ltb, eqb-true, eq-eqb}
use lib.Bits.{bit_or}
use Rattle.bits.specs.Bits.{bit, set_of}
use Rattle.bits.specs.Fields.{stem_target, stem_state}
use Rattle.bits.proofs.Truth.{bool_same, and_left}
use Rattle.bits.proofs.Bits.{bit_set_of, bit_zero}
use Rattle.bits.proofs.Operations.{bit_or_lem}
use Rattle.growth.specs.Grow.{covered}
use Rattle.growth.proofs.Offering.{covered_snoc}
use Rattle.stems.specs.Stems.{target_covers, stem_covers}
use Rattle.stems.specs.Flags.{flag_at, Marked, Raised}

-- ---- one look

module _ (largest : Bool) where
  -- only the state and the target of a candidate count
  covered_low : (es : List ℕ) (e : ℕ) → covered (stem_covers largest) es (e % 4096) ≡ covered (stem_covers largest) es e
  unfolding stem_covers
  covered_low [] e = refl
  covered_low (x ∷ es) e =
      let state : stem_state (e % 4096) ≡ stem_state e = omega arith in
      let target : stem_target (e % 4096) ≡ stem_target e = omega arith in
      ap₂ ◌||◌ (ap₂ (λ (q t : ℕ). eqb (stem_state x) q && target_covers largest (stem_target x) t) state target) (covered_low es e)

  pub look : {es marks : List ℕ} (e : ℕ) → Marked largest es marks → flag_at marks (e % 4096) ≡ covered (stem_covers largest) es e
  look {es} e m = m.flag (e % 4096) (omega arith) ∙ covered_low es e

-- ---- flags raised

-- `Raised`, in the first g groups of eight targets
pub record RaisedBelow (g : ℕ) (largest : Bool) (entry : ℕ) (old new : List ℕ) : Type 0 where
  pub long : length new ≡ length old
  pub flag : (i : ℕ) → i < 4096 → flag_at new i ≡ (stem_covers largest entry i && ltb (stem_target i / 8) g || flag_at old i)

module _ (largest : Bool) (entry : ℕ) where
  -- one group more
  pub raised_more : {state target : ℕ} (g : ℕ) {old new : List ℕ} {eight : ℕ} → RaisedBelow g largest entry old new → length old ≡ 512 → g < 32
      → state ≡ stem_state entry → target ≡ stem_target entry → eight ≡ set_of (λ j. target_covers largest target (8 * g + j)) 8
      → RaisedBelow (g + 1) largest entry old (set new (32 * state + g) (bit_or (get_or new (32 * state + g) 0) eight))
  unfolding stem_covers
  raised_more {state} {target} g {old} {new} {eight} r long l at_state at_target e =
      record { long = length-set new place byte ∙ r.long; flag = λ i h. at i h (ℕ_discrete (i / 8) place) }
    where
      place : ℕ
      place = 32 * state + g

      byte : ℕ
      byte = bit_or (get_or new place 0) eight

      both : ℕ → ℕ → Bool
      both i g = stem_covers largest entry i && ltb (stem_target i / 8) g

      -- where a candidate of this group lies
      lies : (i : ℕ) → i < 4096 → i / 8 ≡ place → (stem_state entry ≡ stem_state i) × (stem_target i / 8 ≡ g) × (stem_target i ≡ 8 * g + i % 8)
      lies i h here = (omega arith, omega arith, omega arith)

      before : (i : ℕ) → i < 4096 → i / 8 ≡ place → both i g ≡ false
      before i h here = ap (◌&&◌ (stem_covers largest entry i)) (le-ltb (stem_target i / 8) g (omega (arith, (lies i h here).1))) ∙ and-false (stem_covers largest entry i)

      after : (i : ℕ) → i < 4096 → i / 8 ≡ place → both i (g + 1) ≡ target_covers largest target (8 * g + i % 8)
      after i h here =
          ap₂ (λ (a b : Bool). (a && target_covers largest (stem_target entry) (stem_target i)) && b)
          (eq-eqb (stem_state entry) (stem_state i) (lies i h here).0) (lt-ltb (stem_target i / 8) (g + 1) (omega (arith, (lies i h here).1)))
          ∙ and-true (target_covers largest (stem_target entry) (stem_target i))
          ∙ ap₂ (target_covers largest) (sym at_target) (lies i h here).2

      -- another candidate that the entry covers is of another group
      other : (i : ℕ) → i < 4096 → (i / 8 ≡ place → ⊥) → both i g ≡ both i (g + 1)
      other i h n = step (stem_covers largest entry i) refl
        where
          step : (b : Bool) → stem_covers largest entry i ≡ b → (b && ltb (stem_target i / 8) g) ≡ (b && ltb (stem_target i / 8) (g + 1))
          step false p = refl
          step true p =
              let same = eqb-true (stem_state entry) (stem_state i) (and_left (eqb (stem_state entry) (stem_state i)) (target_covers largest (stem_target entry) (stem_target i)) p) in
              bool_same (ltb (stem_target i / 8) g) (ltb (stem_target i / 8) (g + 1))
              (λ q. lt-ltb (stem_target i / 8) (g + 1) (omega (arith, ltb-true (stem_target i / 8) g q)))
              (λ q. lt-ltb (stem_target i / 8) g (omega (arith, ltb-true (stem_target i / 8) (g + 1) q, same)))

      at : (i : ℕ) → i < 4096 → Dec (i / 8 ≡ place) → flag_at (set new place byte) i ≡ (both i (g + 1) || flag_at old i)
      at i h (yes here) =
          ap (λ (k : ℕ). bit (get_or (set new place byte) k 0) (i % 8)) here
          ∙ ap (λ (x : ℕ). bit x (i % 8)) (get_or-set_same new place byte 0 (omega (arith, r.long)) ∙ ap (bit_or (get_or new place 0)) e)
          ∙ bit_or_lem (get_or new place 0) (set_of (λ j. target_covers largest target (8 * g + j)) 8) (i % 8)
          ∙ ap₂ ◌||◌ (ap (λ (k : ℕ). bit (get_or new k 0) (i % 8)) (sym here) ∙ r.flag i h ∙ ap (λ (b : Bool). b || flag_at old i) (before i h here))
          (bit_set_of (λ j. target_covers largest target (8 * g + j)) 8 (i % 8) (omega arith) ∙ sym (after i h here))
          ∙ or_comm (flag_at old i) (both i (g + 1))
      at i h (no n) = ap (λ (x : ℕ). bit x (i % 8)) (get_or-set_other new place (i / 8) byte 0 n) ∙ r.flag i h ∙ ap (λ (b : Bool). b || flag_at old i) (other i h n)

-- ---- an entry more

pub marked_none : (largest : Bool) → Marked largest [] (replicate 512 0)
marked_none largest = record {
  long = length-replicate {A = ℕ} 512 0;
  flag = λ i h. ap (λ (x : ℕ). bit x (i % 8)) (get_or-replicate {A = ℕ} 512 (i / 8) 0 0 (omega arith)) ∙ bit_zero (i % 8);
}

pub marked_more : (largest : Bool) {es old new : List ℕ} (e : ℕ) → Marked largest es old → Raised largest e old new → Marked largest (es ++ (e ∷ [])) new
marked_more largest {es} {old} {new} e m r =
    record {
      long = r.long ∙ m.long;
      flag = λ i h. r.flag i h ∙ ap (◌||◌ (stem_covers largest e i)) (m.flag i h) ∙ or_comm (stem_covers largest e i) (covered (stem_covers largest) es i)
          ∙ sym (covered_snoc (stem_covers largest) es e i);
    }
