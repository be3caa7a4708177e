-- Where the entries of a table come from, whether it ended or lacked room, and what follows for its entries and their number. Assumes nothing.
use mathlib.Core.Path.{◌≡◌, refl, sym, ◌∙◌}
use mathlib.Core.Bool.{Bool, true, false, true≢false}
use mathlib.Core.Logic.{◌≢◌}
use mathlib.Core.List.{List, [], ◌∷◌, ◌++◌, map, Memᴰ}
use Prim.Native.Nat.{ℕ, ◌≤◌, ◌<◌}
use native.Mathlib.Nat.{le_refl, le_trans}
use native.Mathlib.Omega.{arith}
use lib.ListN.{length, get_or, length-append}
use Rattle.acceptance.proofs.Pigeonhole.{different_fit}
use Rattle.growth.specs.Grow.{Outcome, ended, full, entries, covered, table}
use Rattle.growth.proofs.Entries.{At, Each, Snoc, old, new, at_below, at_left, at_snoc, at_nil, at_map, at_get_d, entry}
use Rattle.growth.proofs.Covered.{uncovered}
use Rattle.growth.proofs.Grown.{Offered, no_more, dropped, appended, no_room, Grown, all_taken, stopped, taken, Tabled, first_full, first_taken, tables}

-- the first candidates are good, and good entries have good candidates
pub record Inherited {E : Type 0} (Good : E → Type 0) (next : ℕ → E → List E) (first : List E) : Type 0 where
  pub good_first : (c : E) → Memᴰ c first → Good c
  pub good_next : (i : ℕ) (e c : E) → Good e → Memᴰ c (next i e) → Good c

module _ {E : Type 0} (covers : E → E → Bool) (next : ℕ → E → List E) (first : List E) where
  -- c is a first candidate, or one of an entry of t at an index below j
  pub data Origin (t : List E) (j : ℕ) (c : E) : Type 0 where
    from_first : Memᴰ c first → Origin t j c
    from_earlier : {i : ℕ} {e : E} → i < j → At t i e → Memᴰ c (next i e) → Origin t j c

  -- each entry is a candidate of the entries before it, and none of those covers it
  pub data Built : List E → Type 0 where
    none_yet : Built []
    one_more : {t : List E} {c : E} → Built t → Origin t (length t) c → covered covers t c ≡ false → Built (t ++ (c ∷ []))

  -- A table that ended is built. One that lacks room is too, and so would be one with one more entry.
  pub data Reached (room : ℕ) : Outcome E → Type 0 where
    whole : {t : List E} → Built t → Reached room (ended t)
    short : {t : List E} (c : E) → Built t → room ≤ length t → Built (t ++ (c ∷ [])) → Reached room (full t)

module _ {E : Type 0} {covers : E → E → Bool} {next : ℕ → E → List E} {first : List E} where
  pub built_entries : {room : ℕ} {o : Outcome E} → Reached covers next first room o → Built covers next first (entries o)
  built_entries (whole b) = b
  built_entries (short c b l b') = b

  origin_later : {t : List E} {j k : ℕ} {c : E} (r : List E) → j ≤ k → Origin covers next first t j c → Origin covers next first (t ++ r) k c
  origin_later r l (from_first m) = from_first m
  origin_later r l (from_earlier n a m) = from_earlier (le_trans n l) (at_left r a) m

  offered_built : {room : ℕ} {t cs : List E} {o : Outcome E} → Offered covers room t cs o → Built covers next first t → ((c : E) → Memᴰ c cs → Origin covers next first t (length t) c)
      → Reached covers next first room o
  offered_built no_more b s = whole b
  offered_built (dropped p h) b s = offered_built h b (λ c m. s c (Memᴰ.tail m))
  offered_built {t = t} (appended {c = c} p l h) b s =
      offered_built h (one_more b (s c (Memᴰ.head refl)) p) (λ d m. origin_later (c ∷ []) (omega (arith, length-append t (c ∷ []))) (s d (Memᴰ.tail m)))
  offered_built (no_room {c = c} p l) b s = short c b l (one_more b (s c (Memᴰ.head refl)) p)

  -- from the first candidates, and from those of an entry
  pub first_built : {room : ℕ} {o : Outcome E} → Offered covers room [] first o → Reached covers next first room o
  first_built h = offered_built h none_yet (λ c m. from_first m)

  pub taken_built : {room i : ℕ} {t : List E} {e : E} {o : Outcome E} → At t i e → Offered covers room t (next i e) o → Built covers next first t → Reached covers next first room o
  taken_built a h b = offered_built h b (λ c m. from_earlier (at_below a) a m)

  grown_built : {room i : ℕ} {t : List E} {o : Outcome E} → Grown covers next room i t o → Built covers next first t → Reached covers next first room o
  grown_built (all_taken l) b = whole b
  grown_built (stopped a h) b = taken_built a h b
  grown_built (taken a h g) b = grown_built g (built_entries (taken_built a h b))

  pub table_built : {room : ℕ} {o : Outcome E} → Tabled covers next room first o → Reached covers next first room o
  table_built (first_full h) = first_built h
  table_built (first_taken h g) = grown_built g (built_entries (first_built h))

  -- ---- origin: where an entry comes from

  pub origin : {t : List E} {j : ℕ} {c : E} → Built covers next first t → At t j c → Origin covers next first t j c
  origin none_yet a = absurd (at_nil a)
  origin (one_more {t = t} {c = c} b s p) a = at (at_snoc t a) (λ i e a. origin b a)
    where
      at : {j : ℕ} {d : E} → Snoc t c j d → ((i : ℕ) (e : E) → At t i e → Origin covers next first t i e) → Origin covers next first (t ++ (c ∷ [])) j d
      at (old a) ih = origin_later (c ∷ []) (le_refl _) (ih _ _ a)
      at new ih = origin_later (c ∷ []) (le_refl _) s

  -- ---- apart: no entry is covered by an earlier one

  pub apart : {t : List E} {i j : ℕ} {d e : E} → Built covers next first t → i < j → At t i d → At t j e → covers d e ≡ false
  apart none_yet l a a' = absurd (at_nil a)
  apart (one_more {t = t} {c = c} b s p) l a a' = at (at_snoc t a) (at_snoc t a') l (λ a a'. apart b l a a')
    where
      at : {i j : ℕ} {d e : E} → Snoc t c i d → Snoc t c j e → i < j → (At t i d → At t j e → covers d e ≡ false) → covers d e ≡ false
      at (old a) (old a') l ih = ih a a'
      at (old a) new l ih = uncovered covers c p a
      at new (old a') l ih = absurd (omega (arith, at_below a'))
      at new new l ih = absurd (omega arith)

  module _ {Good : E → Type 0} (good : Inherited Good next first) where
    -- ---- what the first candidates have and entries hand on, all entries have

    pub all_good : {t : List E} {i : ℕ} {e : E} → Built covers next first t → At t i e → Good e
    all_good none_yet a = absurd (at_nil a)
    all_good (one_more {t = t} {c = c} b s p) a = at (at_snoc t a) s (λ i e a. all_good b a)
      where
        at : {i : ℕ} {e : E} → Snoc t c i e → Origin covers next first t (length t) c → ((i : ℕ) (e : E) → At t i e → Good e) → Good e
        at (old a) s ih = ih _ _ a
        at new (from_first m) ih = good.good_first c m
        at new (from_earlier l a m) ih = good.good_next _ _ c (ih _ _ a) m

    -- ---- bound: keys below K that tell uncovered entries apart, so at most K entries

    module _ (key : E → ℕ) (K : ℕ) (small : (e : E) → Good e → key e < K) (told : (d e : E) → Good d → Good e → key d ≡ key e → covers d e ≡ true) where
      pub built_length : (t : List E) → Built covers next first t → length t ≤ K
      built_length t b = different_fit K (length t) (λ i. get_or (map key t) i 0) low different
        where
          key_at : {i : ℕ} {e : E} → At t i e → get_or (map key t) i 0 ≡ key e
          key_at a = at_get_d 0 (at_map key a)

          low : (i : ℕ) → i < length t → get_or (map key t) i 0 < K
          low i l = let (e, a) = entry t i l in rw (key_at a) (small e (all_good b a))

          different : (i j : ℕ) → i < j → j < length t → get_or (map key t) i 0 ≢ get_or (map key t) j 0
          different i j l m q =
              let (d, a) = entry t i (omega arith) in
              let (e, a') = entry t j m in
              true≢false (sym (told d e (all_good b a) (all_good b a') (cc (key_at a, key_at a'))) ∙ apart b l a a')

      -- K entries are room enough
      pub never_full : {room : ℕ} {t : List E} → K ≤ room → Reached covers next first room (full t) → ⊥
      never_full l (short {t = t} c b m b') = omega (arith, built_length (t ++ (c ∷ [])) b', length-append t (c ∷ []))

-- of the function itself, whether it ended or lacked room
pub table_good : {E : Type 0} (covers : E → E → Bool) {next : ℕ → E → List E} {first : List E} {Good : E → Type 0} → Inherited Good next first → (room : ℕ)
    → Each Good (entries (table covers next room first))
table_good covers {next} {first} good room = record { each = λ a. all_good good (built_entries (table_built (tables covers next room first))) a }
