-- Map: a function on entries that keeps what covers and the candidates carries a whole growth over, so that the two growths are one. It need keep them
-- only for entries with a property that the first candidates have and that entries hand on. Assumes nothing.
use mathlib.Core.Path.{◌≡◌, refl, sym, ap₂, ◌∙◌, subst}
use mathlib.Core.Bool.{Bool, ◌||◌}
use mathlib.Core.List.{List, [], ◌∷◌, map, map-append, Memᴰ}
use Prim.Native.Nat.{ℕ, ◌≤◌, ◌<◌}
use lib.ListN.{length, length-map}
use Rattle.growth.specs.Grow.{Outcome, ended, full, entries, covered, table}
use Rattle.growth.proofs.Entries.{At, Each, at_head, at_tail, at_nil, at_map, each_snoc}
use Rattle.growth.proofs.Grown.{Offered, no_more, dropped, appended, no_room, Grown, all_taken, stopped, taken, Tabled, first_full, first_taken, tables, table_is}
use Rattle.growth.proofs.Built.{Inherited, Built, built_entries, first_built, taken_built, all_good}

module _ {E F : Type 0} (f : E → F) where
  abbrev pub mapped : Outcome E → Outcome F
  mapped (ended t) = ended (map f t)
  mapped (full t) = full (map f t)

  pub mapped_entries : (o : Outcome E) → entries (mapped o) ≡ map f (entries o)
  mapped_entries (ended t) = refl
  mapped_entries (full t) = refl

-- f carries the growth by covers, next and first over to that by covers' and next'
pub record Carries {E F : Type 0} (f : E → F) (Good : E → Type 0) (covers : E → E → Bool) (next : ℕ → E → List E) (first : List E) (covers' : F → F → Bool) (next' : ℕ → F → List F) : Type 0 where
  pub good : Inherited Good next first
  pub keeps : (d c : E) → Good d → Good c → covers' (f d) (f c) ≡ covers d c
  pub carries : (i : ℕ) (e : E) → Good e → next' i (f e) ≡ map f (next i e)

module _ {E F : Type 0} {f : E → F} {Good : E → Type 0} {covers : E → E → Bool} {next : ℕ → E → List E} {first : List E} {covers' : F → F → Bool} {next' : ℕ → F → List F}
    (law : Carries f Good covers next first covers' next') where
  covered_map : (t : List E) (c : E) → Each Good t → Good c → covered covers' (map f t) (f c) ≡ covered covers t c
  covered_map [] c g h = refl
  covered_map (d ∷ t) c g h = ap₂ ◌||◌ (law.keeps d c (g.each at_head) h) (covered_map t c (record { each = λ a. g.each (at_tail a) }) h)

  offered_map : {room : ℕ} {t cs : List E} {o : Outcome E} → Offered covers room t cs o → Each Good t → ((c : E) → Memᴰ c cs → Good c) → Offered covers' room (map f t) (map f cs) (mapped f o)
  offered_map no_more g h = no_more
  offered_map {t = t} (dropped {c = c} p k) g h = dropped (covered_map t c g (h c (Memᴰ.head refl)) ∙ p) (offered_map k g (λ d m. h d (Memᴰ.tail m)))
  offered_map {room} {t} (appended {cs = cs} {c = c} {o = o} p l k) g h =
      let good = h c (Memᴰ.head refl) in
      let m : length (map f t) < room = rw (length-map t f) l in
      appended (covered_map t c g good ∙ p) m
      (subst (λ (s : List F). Offered covers' room s (map f cs) (mapped f o)) (map-append f t (c ∷ [])) (offered_map k (each_snoc g good) (λ d m. h d (Memᴰ.tail m))))
  offered_map {room} {t} (no_room {c = c} p l) g h = let m : room ≤ length (map f t) = rw (length-map t f) l in no_room (covered_map t c g (h c (Memᴰ.head refl)) ∙ p) m

  each_good : {t : List E} → Built covers next first t → Each Good t
  each_good b = record { each = λ a. all_good law.good b a }

  -- the candidates of an entry
  taken_map : {room i : ℕ} {t : List E} {e : E} {o : Outcome E} → Built covers next first t → At t i e → Offered covers room t (next i e) o → Offered covers' room (map f t) (next' i (f e)) (mapped f o)
  taken_map {room} {i} {t} {e} {o} b a k =
      let good = all_good law.good b a in
      subst (λ (cs : List F). Offered covers' room (map f t) cs (mapped f o)) (sym (law.carries i e good)) (offered_map k (each_good b) (λ c m. law.good.good_next i e c good m))

  grown_map : {room i : ℕ} {t : List E} {o : Outcome E} → Grown covers next room i t o → Built covers next first t → Grown covers' next' room i (map f t) (mapped f o)
  grown_map {i = i} {t = t} (all_taken l) b = let m : length (map f t) ≤ i = rw (length-map t f) l in all_taken m
  grown_map (stopped a k) b = stopped (at_map f a) (taken_map b a k)
  grown_map (taken a k h) b = taken (at_map f a) (taken_map b a k) (grown_map h (built_entries (taken_built a k b)))

  first_map : {room : ℕ} {o : Outcome E} → Offered covers room [] first o → Offered covers' room [] (map f first) (mapped f o)
  first_map k = offered_map k (record { each = λ a. absurd (at_nil a) }) law.good.good_first

  tabled_map : {room : ℕ} {o : Outcome E} → Tabled covers next room first o → Tabled covers' next' room (map f first) (mapped f o)
  tabled_map (first_full k) = first_full (first_map k)
  tabled_map (first_taken k h) = first_taken (first_map k) (grown_map h (built_entries (first_built k)))

  -- both outcomes, of the function itself
  pub table_map : (room : ℕ) → table covers' next' room (map f first) ≡ mapped f (table covers next room first)
  table_map room = table_is covers' next' room (tabled_map (tables covers next room first))
