-- The entries of a list by their index. Assumes nothing.
use mathlib.Core.Path.{◌≡◌, refl}
use mathlib.Core.Option.{Option, none, some}
use mathlib.Core.List.{List, [], ◌∷◌, ◌++◌, map, Memᴰ}
use Prim.Native.Nat.{ℕ, zero, suc, ◌≤◌, ◌<◌, suc-le-suc}
use native.Mathlib.Nat.{zero-lt-suc, le_of_suc-le-suc, not-suc-le-zero}
use native.Mathlib.Omega.{arith}
use lib.ListN.{length, get_or, get_elem?, length-map}

module _ {E : Type 0} where
  -- e stands at the index i of the list
  pub data At : List E → ℕ → E → Type 0 where
    at_head : {e : E} {t : List E} → At (e ∷ t) 0 e
    at_tail : {d e : E} {t : List E} {i : ℕ} → At t i e → At (d ∷ t) (suc i) e

  -- every entry is good
  pub record Each (Good : E → Type 0) (t : List E) : Type 0 where
    pub each : {i : ℕ} {e : E} → At t i e → Good e

  pub at_below : {t : List E} {i : ℕ} {e : E} → At t i e → i < length t
  at_below at_head = zero-lt-suc _
  at_below (at_tail a) = suc-le-suc (at_below a)

  pub at_nil : {i : ℕ} {e : E} → At [] i e → ⊥
  at_nil a = elim a [ ]

  pub at_unique : {t : List E} {i : ℕ} {d e : E} → At t i d → At t i e → d ≡ e
  at_unique at_head at_head = refl
  at_unique (at_tail a) (at_tail b) = at_unique a b

  -- an index below the length has an entry
  pub entry : (t : List E) (i : ℕ) → i < length t → (e : E) × At t i e
  entry [] i l = absurd (not-suc-le-zero l)
  entry (x ∷ t) zero l = (x, at_head)
  entry (x ∷ t) (suc i) l = let (e, a) = entry t i (le_of_suc-le-suc l) in (e, at_tail a)

  -- the members are the entries
  pub at_mem : {t : List E} {i : ℕ} {e : E} → At t i e → Memᴰ e t
  at_mem at_head = Memᴰ.head refl
  at_mem (at_tail a) = Memᴰ.tail (at_mem a)

  pub mem_at : {e : E} {t : List E} → Memᴰ e t → (i : ℕ) × At t i e
  mem_at (Memᴰ.head p) = (0, rw p at_head)
  mem_at (Memᴰ.tail m) = let (i, a) = mem_at m in (suc i, at_tail a)

  -- ---- as `get_or` and `get_elem?` find them

  pub at_get_d : {t : List E} {i : ℕ} {e : E} (d : E) → At t i e → get_or t i d ≡ e
  at_get_d d at_head = refl
  at_get_d d (at_tail a) = at_get_d d a

  pub at_get_elem? : {t : List E} {i : ℕ} {e : E} → At t i e → get_elem? t i ≡ some e
  at_get_elem? at_head = refl
  at_get_elem? (at_tail a) = at_get_elem? a

  pub past_get_elem? : (t : List E) {i : ℕ} → length t ≤ i → get_elem? t i ≡ none
  past_get_elem? [] l = refl
  past_get_elem? (x ∷ t) {i = zero} l = absurd (not-suc-le-zero l)
  past_get_elem? (x ∷ t) {i = suc i} l = past_get_elem? t (le_of_suc-le-suc l)

  -- what `get_elem?` finds
  pub data Found (t : List E) (i : ℕ) : Option E → Type 0 where
    there : {e : E} → At t i e → Found t i (some e)
    past : length t ≤ i → Found t i none

  found_later : {t : List E} {i : ℕ} {d : E} {o : Option E} → Found t i o → Found (d ∷ t) (suc i) o
  found_later (there a) = there (at_tail a)
  found_later (past l) = past (suc-le-suc l)

  pub found : (t : List E) (i : ℕ) → Found t i (get_elem? t i)
  found [] i = past (omega arith)
  found (x ∷ t) zero = there at_head
  found (x ∷ t) (suc i) = found_later (found t i)

  -- ---- in a longer list

  pub at_left : {t : List E} {i : ℕ} {e : E} (r : List E) → At t i e → At (t ++ r) i e
  at_left r at_head = at_head
  at_left r (at_tail a) = at_tail (at_left r a)

  pub at_last : (t : List E) (c : E) → At (t ++ (c ∷ [])) (length t) c
  at_last [] c = at_head
  at_last (x ∷ t) c = at_tail (at_last t c)

  pub at_cut : (t r : List E) {i : ℕ} {e : E} → i < length t → At (t ++ r) i e → At t i e
  at_cut [] r l a = absurd (not-suc-le-zero l)
  at_cut (x ∷ t) r l at_head = at_head
  at_cut (x ∷ t) r l (at_tail a) = at_tail (at_cut t r (le_of_suc-le-suc l) a)

  -- the entry at an index of a list that is longer by c: one of before, or c
  pub data Snoc (t : List E) (c : E) : ℕ → E → Type 0 where
    old : {i : ℕ} {e : E} → At t i e → Snoc t c i e
    new : Snoc t c (length t) c

  snoc_later : {t : List E} {c d : E} {i : ℕ} {e : E} → Snoc t c i e → Snoc (d ∷ t) c (suc i) e
  snoc_later (old a) = old (at_tail a)
  snoc_later new = new

  pub at_snoc : (t : List E) {c : E} {i : ℕ} {e : E} → At (t ++ (c ∷ [])) i e → Snoc t c i e
  at_snoc [] at_head = new
  at_snoc [] {c = c} {e = e} (at_tail {i = i} a) = elim a [ ]
  at_snoc (x ∷ t) at_head = old at_head
  at_snoc (x ∷ t) (at_tail a) = snoc_later (at_snoc t a)

  pub each_snoc : {Good : E → Type 0} {t : List E} {c : E} → Each Good t → Good c → Each Good (t ++ (c ∷ []))
  each_snoc {Good} {t} {c} g h = record { each = λ a. at (at_snoc t a) }
    where
      at : {i : ℕ} {e : E} → Snoc t c i e → Good e
      at (old a) = g.each a
      at new = h

-- ---- in a list that is carried over

module _ {E F : Type 0} (f : E → F) where
  pub at_map : {t : List E} {i : ℕ} {e : E} → At t i e → At (map f t) i (f e)
  at_map at_head = at_head
  at_map (at_tail a) = at_tail (at_map a)

  pub entry_map : (t : List E) (i : ℕ) → i < length (map f t) → (e : E) × At t i e
  entry_map t i l = entry t i (rw (length-map t f) at l)
