-- A loop that grows a lent table, one step at a time: what the candidates from one index on give, and what the table then holds. Assumes nothing.
use mathlib.Core.Path.{◌≡◌, refl, sym, ap, ap₂, ◌∙◌}
use mathlib.Core.Bool.{Bool, true, false, ◌||◌, or-false, or_assoc}
use mathlib.Core.Option.{Option, none, some}
use mathlib.Core.List.{List, [], ◌∷◌, ◌++◌, append_assoc}
use Prim.Native.Nat.{ℕ, zero, suc, ◌+◌, ◌-◌, ◌≤◌, ◌<◌}
use native.Mathlib.Numerals.{add-one}
use native.Mathlib.Omega.{arith}
use Rattle.std.specs.Prelude.{Ok, Err}
use lib.ListN.{length, get_or, get_elem?, take, drop, set, length-append, length-drop, take-append-drop, get_or-append}
use lib.Seq.{length-take-le, drop-cons, drop-drop, drop-append-add, take-append_seam, set-append_seam}
use Rattle.growth.specs.Grow.{Outcome, ended, full, onward, entries, covered, offer, grow}
use Rattle.growth.specs.Steps.{gather}
use Rattle.growth.proofs.Gathered.{gather_next, gather_over}
use Rattle.growth.specs.Lent.{growth_of, over}
use Rattle.growth.specs.declared.Full.{Full}
use Rattle.growth.proofs.Entries.{At, entry, at_get_d}
use Rattle.growth.proofs.Grown.{append_room, append_full, offer_append, grow_take, offers, offered_length, offered_extends, extends_length}

-- what is left of n at i is one more than what is left at i + 1
left_suc : (n i : ℕ) → i < n → n - i ≡ suc (n - (i + 1))
left_suc n i h = omega arith

left_none : (n i : ℕ) → n ≤ i → n - i ≡ 0
left_none n i h = omega arith

-- an entry more covers what it covers besides
pub covered_snoc : {E : Type 0} (covers : E → E → Bool) (t : List E) (e c : E) → covered covers (t ++ (e ∷ [])) c ≡ (covered covers t c || covers e c)
covered_snoc covers [] e c = or-false (covers e c)
covered_snoc covers (x ∷ t) e c = ap (λ (b : Bool). covers x c || b) (covered_snoc covers t e c) ∙ sym (or_assoc (covers x c) (covered covers t c) (covers e c))

module _ {E : Type 0} (covers : E → E → Bool) (room : ℕ) where
  -- ---- one candidate, or none

  pub offer_none : (t : List E) → offer covers room t [] ≡ ended t
  unfolding offer
  offer_none t = refl

  pub offer_covered : (t : List E) (c : E) → covered covers t c ≡ true → offer covers room t (c ∷ []) ≡ ended t
  unfolding offer
  offer_covered t c p = rw (p, offer)

  pub offer_appended : (t : List E) (c : E) → covered covers t c ≡ false → length t < room → offer covers room t (c ∷ []) ≡ ended (t ++ (c ∷ []))
  unfolding offer
  offer_appended t c p l = rw (p, offer) (rw (append_room t c l))

  pub offer_full : (t : List E) (c : E) → covered covers t c ≡ false → room ≤ length t → offer covers room t (c ∷ []) ≡ full t
  unfolding offer
  offer_full t c p l = rw (p, offer) (rw (append_full t c l))

  -- ---- what an offer leaves is no shorter, and within the room

  pub offer_longer : (t cs : List E) → length t ≤ length (entries (offer covers room t cs))
  offer_longer t cs = extends_length (offered_extends (offers room t cs))

  pub offer_within : (t cs : List E) → length t ≤ room → length (entries (offer covers room t cs)) ≤ room
  offer_within t cs l = offered_length (offers room t cs) l

  -- ---- a loop over the numbers below n, which offers f i for each

  pub gather_on : (f : ℕ → List E) (n i : ℕ) (t : List E) → i < n
      → offer covers room t (gather i (n - i) f) ≡ onward (offer covers room t (f i)) (λ s. offer covers room s (gather (i + 1) (n - (i + 1)) f))
  gather_on f n i t h = ap (offer covers room t) (gather_next f n i h) ∙ offer_append covers room t (f i) (gather (i + 1) (n - (i + 1)) f)

  pub gather_done : (f : ℕ → List E) (n i : ℕ) (t : List E) → n ≤ i → offer covers room t (gather i (n - i) f) ≡ ended t
  gather_done f n i t h = ap (offer covers room t) (gather_over f n i h) ∙ offer_none t

  -- ---- the loop that takes the entries in order

  module _ (next : ℕ → E → List E) where
    pub grow_on : (i : ℕ) (t : List E) (d : E) → i < length t → length t ≤ room
        → grow covers next room (room - i) i t ≡ onward (offer covers room t (next i (get_or t i d))) (grow covers next room (room - (i + 1)) (i + 1))
    grow_on i t d h l =
        ap (λ (k : ℕ). grow covers next room k i t) (left_suc room i (omega arith))
        ∙ grow_take covers next room (room - (i + 1)) at_i
        ∙ ap₂ (λ (e : E) (j : ℕ). onward (offer covers room t (next i e)) (grow covers next room (room - (i + 1)) j)) (sym (at_get_d d at_i)) (sym (add-one i))
      where
        at_i : At t i (entry t i h).0
        at_i = (entry t i h).1

    pub grow_longer : (f i : ℕ) (t : List E) → length t ≤ length (entries (grow covers next room f i t))
    unfolding grow
    grow_longer zero i t = omega arith
    grow_longer (suc f) i t = at (get_elem? t i) (λ e. on (offer covers room t (next i e)) (offer_longer t (next i e)) (λ s. grow_longer f (suc i) s))
      where
        on : (o : Outcome E) → length t ≤ length (entries o) → ((s : List E) → length s ≤ length (entries (grow covers next room f (suc i) s)))
            → length t ≤ length (entries (onward o (grow covers next room f (suc i))))
        on (full s) l h = l
        on (ended s) l h = omega (arith, h s)

        at : (m : Option E) → ((e : E) → length t ≤ length (entries (onward (offer covers room t (next i e)) (grow covers next room f (suc i)))))
            → length t ≤ length {A = E} (entries {E = E} (elim m [ none ↦ ended t | some e ↦ onward (offer covers room t (next i e)) (grow covers next room f (suc i)) ]))
        at none h = omega arith
        at (some e) h = h e

-- ---- what the answer says of the outcome

module _ {E : Type 0} where
  pub ended_is : (o : Outcome E) {m : ℕ} → Ok m ≡ growth_of o → (o ≡ ended (entries o)) × (length (entries o) ≡ m)
  ended_is (ended t) e = (refl, cc)
  ended_is (full t) e = let z : ◌≡◌ {A = ℕ} 0 1 = cc in absurd (omega arith)

  pub full_is : (o : Outcome E) {e : Full} → Err e ≡ growth_of o → o ≡ full (entries o)
  full_is (ended t) e = let z : ◌≡◌ {A = ℕ} 0 1 = cc in absurd (omega arith)
  full_is (full t) e = refl

-- ---- a lent table with its first elements replaced

module _ {E : Type 0} where
  pub over_length : (s t : List E) → length s ≤ length t → length (over s t) ≡ length t
  unfolding over
  over_length s t l = simp (length-append, length-drop) (omega arith)

  -- the first elements are those of s
  pub take_over : (s t : List E) → take (length s) (over s t) ≡ s
  unfolding over
  take_over s t = take-append_seam s (drop (length s) t)

  pub get_d_over : (s t : List E) (i : ℕ) (d : E) → i < length s → get_or (over s t) i d ≡ get_or s i d
  unfolding over
  get_d_over s t i d h = get_or-append s (drop (length s) t) d i h

  -- replaced by themselves
  pub over_self : (n : ℕ) (t : List E) → n ≤ length t → over (take n t) t ≡ t
  unfolding over
  over_self n t l = rw (length-take-le n t l) (take-append-drop n t)

  -- replaced twice, the second time no fewer
  pub over_over : (s r t : List E) → length s ≤ length r → over r (over s t) ≡ over r t
  unfolding over
  over_over s r t l = ap (λ (u : List E). r ++ u) (beyond (length r - length s) (omega arith))
    where
      beyond : (k : ℕ) → length s + k ≡ length r → drop (length r) (s ++ drop (length s) t) ≡ drop (length r) t
      beyond k e =
          ap (λ (n : ℕ). drop n (s ++ drop (length s) t)) (sym e)
          ∙ drop-append-add s (drop (length s) t) k ∙ drop-drop k (length s) t ∙ ap (λ (n : ℕ). drop n t) e

  -- an element written after the first ones
  pub over_set : (s t : List E) (e : E) → length s < length t → set (over s t) (length s) e ≡ over (s ++ (e ∷ [])) t
  unfolding over
  over_set s t e l =
      let more : suc (length s) ≡ length (s ++ (e ∷ [])) = omega (arith, length-append s (e ∷ [])) in
      ap (λ (u : List E). set (s ++ u) (length s) e) (drop-cons t (length s) e l)
      ∙ set-append_seam s (get_or t (length s) e) (drop (suc (length s)) t) e
      ∙ sym (append_assoc s (e ∷ []) (drop (suc (length s)) t))
      ∙ ap (λ (n : ℕ). (s ++ (e ∷ [])) ++ drop n t) more

  pub set_over : (n : ℕ) (t : List E) (e : E) → n < length t → set t n e ≡ over (take n t ++ (e ∷ [])) t
  set_over n t e l =
      ap₂ (λ (u : List E) (k : ℕ). set u k e) (sym (over_self n t (omega arith))) (sym long) ∙ over_set (take n t) t e (omega (arith, long))
    where
      long : length (take n t) ≡ n
      long = length-take-le n t (omega arith)
