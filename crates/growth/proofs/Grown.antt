-- How a table has grown, as a relation: the steps of `offer`, `grow` and `table`, and that those functions are these relations. Assumes nothing.
use mathlib.Core.Path.{◌≡◌, refl, ◌∙◌}
use mathlib.Core.Bool.{Bool, true, false}
use mathlib.Core.Option.{Option, none, some}
use mathlib.Core.List.{List, [], ◌∷◌, ◌++◌, append-nil, append_assoc}
use Prim.Native.Nat.{ℕ, zero, suc, ◌+◌, ◌≤◌, ◌<◌}
use native.Mathlib.Omega.{arith}
use borrow.Author.Tests.{ltb-true, ltb-false, lt-ltb, le-ltb}
use lib.ListN.{length, get_elem?, length-append}
use lib.Dec.{ltb}
use Rattle.growth.specs.Grow.{Outcome, ended, full, onward, entries, append, covered, offer, grow, table}
use Rattle.growth.proofs.Entries.{At, at_below, at_get_elem?, past_get_elem?, Found, there, past, found}

module _ {E : Type 0} where
  pub append_room : {room : ℕ} (t : List E) (c : E) → length t < room → append room t c ≡ ended (t ++ (c ∷ []))
  unfolding append
  append_room {room} t c l = rw (lt-ltb (length t) room l, append)

  pub append_full : {room : ℕ} (t : List E) (c : E) → room ≤ length t → append room t c ≡ full t
  unfolding append
  append_full {room} t c l = rw (le-ltb (length t) room l, append)

  -- s is t with more entries
  pub record Extends (t s : List E) : Type 0 where
    pub rest : List E
    pub joined : t ++ rest ≡ s

  extends_self : {t : List E} → Extends t t
  extends_self {t} = record { rest = []; joined = append-nil t }

  extends_trans : {t s r : List E} → Extends t s → Extends s r → Extends t r
  extends_trans {t} f g = record { rest = f.rest ++ g.rest; joined = rw (← append_assoc, f.joined) g.joined }

  pub extends_length : {t s : List E} → Extends t s → length t ≤ length s
  extends_length {t} f = rw (← f.joined, length-append t f.rest) (omega arith)

-- ---- the steps as relations

module _ {E : Type 0} (covers : E → E → Bool) where
  pub data Offered (room : ℕ) : List E → List E → Outcome E → Type 0 where
    no_more : {t : List E} → Offered room t [] (ended t)
    dropped : {t cs : List E} {c : E} {o : Outcome E} → covered covers t c ≡ true → Offered room t cs o → Offered room t (c ∷ cs) o
    appended : {t cs : List E} {c : E} {o : Outcome E} → covered covers t c ≡ false → length t < room → Offered room (t ++ (c ∷ [])) cs o → Offered room t (c ∷ cs) o
    no_room : {t cs : List E} {c : E} → covered covers t c ≡ false → room ≤ length t → Offered room t (c ∷ cs) (full t)

  pub data Grown (next : ℕ → E → List E) (room : ℕ) : ℕ → List E → Outcome E → Type 0 where
    all_taken : {i : ℕ} {t : List E} → length t ≤ i → Grown next room i t (ended t)
    stopped : {i : ℕ} {t s : List E} {e : E} → At t i e → Offered room t (next i e) (full s) → Grown next room i t (full s)
    taken : {i : ℕ} {t s : List E} {e : E} {o : Outcome E} → At t i e → Offered room t (next i e) (ended s) → Grown next room (suc i) s o → Grown next room i t o

  pub data Tabled (next : ℕ → E → List E) (room : ℕ) (first : List E) : Outcome E → Type 0 where
    first_full : {s : List E} → Offered room [] first (full s) → Tabled next room first (full s)
    first_taken : {s : List E} {o : Outcome E} → Offered room [] first (ended s) → Grown next room 0 s o → Tabled next room first o

module _ {E : Type 0} {covers : E → E → Bool} where
  -- ---- offered

  pub offers : (room : ℕ) (t cs : List E) → Offered covers room t cs (offer covers room t cs)
  unfolding offer append
  offers room t [] = no_more
  offers room t (c ∷ cs) = at (covered covers t c) refl (ltb (length t) room) refl (offers room t cs) (offers room (t ++ (c ∷ [])) cs)
    where
      at : (b : Bool) → covered covers t c ≡ b → (d : Bool) → ltb (length t) room ≡ d → Offered covers room t cs (offer covers room t cs)
          → Offered covers room (t ++ (c ∷ [])) cs (offer covers room (t ++ (c ∷ [])) cs)
          → Offered covers room t (c ∷ cs) (elim b [ true ↦ offer covers room t cs | false ↦ onward (elim d [ true ↦ ended (t ++ (c ∷ [])) | false ↦ full t ]) (λ s. offer covers room s cs) ])
      at true p d q g h = dropped p g
      at false p true q g h = appended p (ltb-true (length t) room q) h
      at false p false q g h = no_room p (ltb-false (length t) room q)

  -- the relation says what `offer` gives, also where more candidates follow
  offer_on : {room : ℕ} {t cs : List E} {o : Outcome E} (ds : List E) → Offered covers room t cs o → offer covers room t (cs ++ ds) ≡ onward o (λ s. offer covers room s ds)
  unfolding offer
  offer_on ds no_more = refl
  offer_on ds (dropped p h) = rw (p, offer) (offer_on ds h)
  offer_on {t = t} ds (appended {c = c} p l h) = rw (p, offer) (rw (append_room t c l) (offer_on ds h))
  offer_on {t = t} ds (no_room {c = c} p l) = rw (p, offer) (rw (append_full t c l))

  offer_is : {room : ℕ} {t cs : List E} {o : Outcome E} → Offered covers room t cs o → offer covers room t cs ≡ o
  unfolding offer
  offer_is {room} {o = o} h = rw append-nil at (offer_on [] h) ∙ at o
    where
      at : (o : Outcome E) → onward o (λ s. offer covers room s []) ≡ o
      at (ended t) = refl
      at (full t) = refl

  pub offered_length : {room : ℕ} {t cs : List E} {o : Outcome E} → Offered covers room t cs o → length t ≤ room → length (entries o) ≤ room
  offered_length no_more l = l
  offered_length (dropped p h) l = offered_length h l
  offered_length {t = t} (appended {c = c} p m h) l = offered_length h (omega (arith, length-append t (c ∷ [])))
  offered_length (no_room p m) l = l

  pub offered_extends : {room : ℕ} {t cs : List E} {o : Outcome E} → Offered covers room t cs o → Extends t (entries o)
  offered_extends no_more = extends_self
  offered_extends (dropped p h) = offered_extends h
  offered_extends (appended {c = c} p l h) = extends_trans (record { rest = c ∷ []; joined = refl }) (offered_extends h)
  offered_extends (no_room p l) = extends_self

  pub grown_extends : {next : ℕ → E → List E} {room i : ℕ} {t : List E} {o : Outcome E} → Grown covers next room i t o → Extends t (entries o)
  grown_extends (all_taken l) = extends_self
  grown_extends (stopped a h) = offered_extends h
  grown_extends (taken a h g) = extends_trans (offered_extends h) (grown_extends g)

-- ---- the functions

module _ {E : Type 0} (covers : E → E → Bool) where
  -- candidates may be offered in parts
  pub offer_append : (room : ℕ) (t cs ds : List E) → offer covers room t (cs ++ ds) ≡ onward (offer covers room t cs) (λ s. offer covers room s ds)
  offer_append room t cs ds = offer_on ds (offers room t cs)

  module _ (next : ℕ → E → List E) (room : ℕ) where
    -- where all entries have been taken, the table has ended
    pub grow_end : (f : ℕ) {i : ℕ} (t : List E) → length t ≤ i → grow covers next room f i t ≡ ended t
    unfolding grow
    grow_end zero t l = refl
    grow_end (suc f) t l = rw (past_get_elem? t l, grow)

    -- one entry is taken
    pub grow_take : (f : ℕ) {i : ℕ} {t : List E} {e : E} → At t i e → grow covers next room (suc f) i t ≡ onward (offer covers room t (next i e)) (grow covers next room f (suc i))
    unfolding grow
    grow_take f a = rw (at_get_elem? a, grow)

    -- the bound on how many suffices
    grows : (f i : ℕ) (t : List E) → length t ≤ room → room ≤ i + f → Grown covers next room i t (grow covers next room f i t)
    unfolding grow
    grows zero i t l m = let n : length t ≤ i = omega arith in all_taken n
    grows (suc f) i t l m = at (get_elem? t i) (found t i) (λ s n. grows f (suc i) s n (omega arith))
      where
        go : {e : E} (o : Outcome E) → At t i e → Offered covers room t (next i e) o
            → ((s : List E) → length s ≤ room → Grown covers next room (suc i) s (grow covers next room f (suc i) s))
            → Grown covers next room i t (onward o (grow covers next room f (suc i)))
        go (ended s) a h ih = taken a h (ih s (offered_length h l))
        go (full s) a h ih = stopped a h

        at : (o : Option E) → Found t i o → ((s : List E) → length s ≤ room → Grown covers next room (suc i) s (grow covers next room f (suc i) s))
            → Grown covers next room i t (elim o [ none ↦ ended t | some e ↦ onward (offer covers room t (next i e)) (grow covers next room f (suc i)) ])
        at none (past n) ih = all_taken n
        at (some e) (there a) ih = go (offer covers room t (next i e)) a (offers room t (next i e)) ih

    grow_is : (f : ℕ) {i : ℕ} {t : List E} {o : Outcome E} → length t ≤ room → room ≤ i + f → Grown covers next room i t o → grow covers next room f i t ≡ o
    grow_is f {t = t} l m (all_taken n) = grow_end f t n
    grow_is zero l m (stopped a h) = absurd (omega (arith, at_below a))
    grow_is zero l m (taken a h g) = absurd (omega (arith, at_below a))
    grow_is (suc f) l m (stopped a h) = rw (grow_take f a, offer_is h)
    grow_is (suc f) l m (taken a h g) = rw (grow_take f a, offer_is h) (grow_is f (offered_length h l) (omega arith) g)

    pub tables : (first : List E) → Tabled covers next room first (table covers next room first)
    unfolding table
    tables first = at (offer covers room [] first) (offers room [] first)
      where
        at : (o : Outcome E) → Offered covers room [] first o → Tabled covers next room first (onward o (grow covers next room room 0))
        at (full s) h = first_full h
        at (ended s) h = first_taken h (grows room 0 s (offered_length h (omega arith)) (omega arith))

    pub tabled : (first : List E) {o : Outcome E} → table covers next room first ≡ o → Tabled covers next room first o
    tabled first e = rw e at (tables first)

    pub table_is : {first : List E} {o : Outcome E} → Tabled covers next room first o → table covers next room first ≡ o
    unfolding table
    table_is (first_full h) = rw (offer_is h)
    table_is (first_taken h g) = rw (offer_is h) (grow_is room (offered_length h (omega arith)) (omega arith) g)
