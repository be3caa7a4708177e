-- The set that a word leads to through acceptance, letter by letter. Assumes nothing.
use mathlib.Core.Path.{◌≡◌, sym, ap, ◌∙◌}
use mathlib.Core.Bool.{Bool, true, false, ◌&&◌, ◌||◌, false≢true}
use mathlib.Core.Logic.{◌⊎◌, inl, inr, ⊎_elim}
use mathlib.Core.List.{[], ◌∷◌, ◌++◌}
use Prim.Native.Nat.{ℕ, ◌*◌, ◌^◌, ◌<◌}
use Rattle.bits.specs.Bits.{bit, weight, set_of}
use Rattle.bits.specs.Sets.{SetIs, union, meet}
use Rattle.bits.proofs.Truth.{bool_same, and_left, and_right, and_both, or_left, or_right, or_cases}
use Rattle.bits.proofs.Quantifiers.{any_intro, any_elim}
use Rattle.bits.proofs.Bits.{bit_set_of, set_of_lt, set_of_is}
use Rattle.bits.proofs.Operations.{bit_weighed}
use Rattle.bits.proofs.Moved.{moved_has, has_moved}
use Rattle.acceptance.specs.Lasso.{Word, Aut, Reach, Through, accepting}
use Rattle.acceptance.specs.Contexts.{Small, moved_by, passes_by, through_by}
use Rattle.acceptance.proofs.Paths.{Last, passed, closed, through_snoc, through_unsnoc}
use Rattle.acceptance.proofs.Targets.{single_is}

-- ---- the empty word

-- the set of q alone, or of nothing
pub single_through : {n q : ℕ} {B : Aut} → q < n → SetIs n (weight (B.final q) * 2 ^ q) (Through B q [])
single_through {n} {q} {B} l = record {
  has = λ r. alone;
  only = λ r m e. let g = sym (bit_weighed (B.final q) (2 ^ q) r) ∙ e in
      accepting (and_left (B.final q) (bit (2 ^ q) r) g) ((single_is l).only r m (and_right (B.final q) (bit (2 ^ q) r) g));
}
  where
    alone : {r : ℕ} → Through B q [] r → (r < n) × (bit (weight (B.final q) * 2 ^ q) r ≡ true)
    alone {r} (accepting f h) = let (m, e) = (single_is l).has r h in (m, bit_weighed (B.final q) (2 ^ q) r ∙ and_both (B.final q) (bit (2 ^ q) r) f e)

-- ---- one letter more

module _ (n : ℕ) (B : Aut) (s t x : ℕ) where
  -- acceptance is met before p is left for q, or by that transition, or at q
  crosses : ℕ → ℕ → Bool
  crosses q p = bit t p || (bit s p && (B.final q || B.mark p x q))

  pub through_by_lt : through_by n B s t x < 2 ^ n
  unfolding through_by
  through_by_lt = set_of_lt (passes_by n B s t x) n

  through_has : (p q : ℕ) → p < n → q < n → crosses q p ≡ true → B.step p x q ≡ true → bit (through_by n B s t x) q ≡ true
  unfolding through_by passes_by crosses
  through_has p q l m e h = bit_set_of (passes_by n B s t x) n q m ∙ any_intro (λ p. crosses q p && B.step p x q) n p l (and_both (crosses q p) (B.step p x q) e h)

  through_before : (p q : ℕ) → p < n → q < n → bit t p ≡ true → B.step p x q ≡ true → bit (through_by n B s t x) q ≡ true
  unfolding crosses
  through_before p q l m e h = through_has p q l m (or_left (bit t p) (bit s p && (B.final q || B.mark p x q)) e) h

  through_now : (p q : ℕ) → p < n → q < n → bit s p ≡ true → (B.final q || B.mark p x q) ≡ true → B.step p x q ≡ true
      → bit (through_by n B s t x) q ≡ true
  unfolding crosses
  through_now p q l m e a h =
      through_has p q l m (or_right (bit t p) (bit s p && (B.final q || B.mark p x q)) (and_both (bit s p) (B.final q || B.mark p x q) e a)) h

  has_through : (q : ℕ) → q < n → bit (through_by n B s t x) q ≡ true
      → (p : ℕ) × (p < n) × (B.step p x q ≡ true) × ((bit t p ≡ true) ⊎ ((bit s p ≡ true) × ((B.final q || B.mark p x q) ≡ true)))
  unfolding through_by passes_by crosses
  has_through q m e =
      let (p, l, h) = any_elim (λ p. crosses q p && B.step p x q) n (sym (bit_set_of (passes_by n B s t x) n q m) ∙ e) in (
        p,
        l,
        and_right (crosses q p) (B.step p x q) h,
        ⊎_elim inl (λ g. inr (and_left (bit s p) (B.final q || B.mark p x q) g, and_right (bit s p) (B.final q || B.mark p x q) g))
            (or_cases (bit t p) (bit s p && (B.final q || B.mark p x q)) (and_left (crosses q p) (B.step p x q) h)),
      )

  -- where no transition is itself accepting: what was passed through acceptance, moved, and of the set moved what is accepting
  pub unmarked_through : ((p q : ℕ) → B.mark p x q ≡ false) → through_by n B s t x ≡ union n (moved_by n B t x) (meet n (moved_by n B s x) (set_of B.final n))
  unfolding union meet moved_by
  unmarked_through none =
      set_of_is (λ q. bit before q || bit now q) n (through_by n B s t x) through_by_lt
      (λ q m. bool_same (bit (through_by n B s t x) q) (bit before q || bit now q) (split q m) (joined q m))
    where
      before : ℕ
      before = moved_by n B t x

      entered : ℕ
      entered = moved_by n B s x

      now : ℕ
      now = meet n entered (set_of B.final n)

      bit_now : (q : ℕ) → q < n → bit now q ≡ (bit entered q && B.final q)
      bit_now q m =
          bit_set_of (λ q. bit entered q && bit (set_of B.final n) q) n q m ∙ ap (λ (b : Bool). bit entered q && b) (bit_set_of B.final n q m)

      accepts : (p q : ℕ) → (B.final q || B.mark p x q) ≡ true → B.final q ≡ true
      accepts p q a = ⊎_elim (λ f. f) (λ k. absurd (false≢true (sym (none p q) ∙ k))) (or_cases (B.final q) (B.mark p x q) a)

      split : (q : ℕ) → q < n → bit (through_by n B s t x) q ≡ true → (bit before q || bit now q) ≡ true
      split q m e =
          let (p, l, h, a) = has_through q m e in
          ⊎_elim (λ g. or_left (bit before q) (bit now q) (moved_has n (λ p q. B.step p x q) t p q l m g h))
          (λ g. or_right (bit before q) (bit now q)
          (bit_now q m ∙ and_both (bit entered q) (B.final q) (moved_has n (λ p q. B.step p x q) s p q l m g.0 h) (accepts p q g.1))) a

      joined : (q : ℕ) → q < n → (bit before q || bit now q) ≡ true → bit (through_by n B s t x) q ≡ true
      joined q m e =
          ⊎_elim (λ g. let (p, l, f, h) = has_moved n (λ p q. B.step p x q) t q m g in through_before p q l m f h)
          (λ g. let k = sym (bit_now q m) ∙ g in
          let (p, l, f, h) = has_moved n (λ p q. B.step p x q) s q m (and_left (bit entered q) (B.final q) k) in
          through_now p q l m f (or_left (B.final q) (B.mark p x q) (and_right (bit entered q) (B.final q) k)) h)
          (or_cases (bit before q) (bit now q) e)

pub through_is : {n : ℕ} {B : Aut} → Small n B → {q s t : ℕ} {w : Word} (x : ℕ) → SetIs n s (Reach B q w) → SetIs n t (Through B q w)
    → SetIs n (through_by n B s t x) (Through B q (w ++ (x ∷ [])))
through_is {n} {B} small {q} {s} {t} {w} x reaches passes = record {
  has = λ r h. last (through_unsnoc w x h);
  only = λ r m e. let (p, l, h, a) = has_through n B s t x r m e in
      through_snoc w x (⊎_elim (λ g. passed (passes.only p l g) h) (λ g. closed (reaches.only p l g.0) h g.1) a);
}
  where
    last : {r : ℕ} → Last B q w x r → (r < n) × (bit (through_by n B s t x) r ≡ true)
    last {r} (passed {m = p} g h) =
        let (l, e) = passes.has p g in
        let m = small.step_small p x r h in
        (m, through_before n B s t x p r l m e h)
    last {r} (closed {m = p} g h a) =
        let (l, e) = reaches.has p g in
        let m = small.step_small p x r h in
        (m, through_now n B s t x p r l m e a h)
