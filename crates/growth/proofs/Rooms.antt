-- What the room does to a table: one that ended needs as much room as it has entries and no more; one that lacks room has as many entries as there
-- is room. Assumes nothing.
use mathlib.Core.Path.{◌≡◌, refl, ap}
use mathlib.Core.Bool.{Bool}
use mathlib.Core.List.{List, [], ◌∷◌}
use Prim.Native.Nat.{ℕ, ◌≤◌, ◌<◌}
use native.Mathlib.Omega.{arith}
use lib.ListN.{length, length-append}
use Rattle.growth.specs.Grow.{Outcome, ended, full, entries, table}
use Rattle.growth.proofs.Grown.{extends_length, Offered, no_more, dropped, appended, offered_length, offered_extends, Grown, all_taken, stopped, taken, grown_extends, Tabled, first_full, first_taken, tables, tabled, table_is}
use Rattle.growth.proofs.Built.{Reached, short, table_built}

module _ {E : Type 0} {covers : E → E → Bool} where
  -- ---- another room, where it suffices

  offered_fits : {room more : ℕ} {t cs s : List E} → length s ≤ room → Offered covers more t cs (ended s) → Offered covers room t cs (ended s)
  offered_fits l no_more = no_more
  offered_fits l (dropped p h) = dropped p (offered_fits l h)
  offered_fits {room} {t = t} l (appended {c = c} p m h) =
      let k : length t < room = omega (arith, extends_length (offered_extends h), length-append t (c ∷ [])) in
      appended p k (offered_fits l h)

  grown_fits : {next : ℕ → E → List E} {room more i : ℕ} {t s : List E} → length s ≤ room → Grown covers next more i t (ended s) → Grown covers next room i t (ended s)
  grown_fits l (all_taken m) = all_taken m
  grown_fits l (taken a h g) = taken a (offered_fits (omega (arith, extends_length (grown_extends g))) h) (grown_fits l g)

  tabled_fits : {next : ℕ → E → List E} {room more : ℕ} {first s : List E} → length s ≤ room → Tabled covers next more first (ended s) → Tabled covers next room first (ended s)
  tabled_fits l (first_taken h g) = first_taken (offered_fits (omega (arith, extends_length (grown_extends g))) h) (grown_fits l g)

  -- ---- no more entries than there is room

  grown_length : {next : ℕ → E → List E} {room i : ℕ} {t : List E} {o : Outcome E} → length t ≤ room → Grown covers next room i t o → length (entries o) ≤ room
  grown_length l (all_taken m) = l
  grown_length l (stopped a h) = offered_length h l
  grown_length l (taken a h g) = grown_length (offered_length h l) g

  tabled_length : {next : ℕ → E → List E} {room : ℕ} {first : List E} {o : Outcome E} → Tabled covers next room first o → length (entries o) ≤ room
  tabled_length (first_full h) = offered_length h (omega arith)
  tabled_length (first_taken h g) = grown_length (offered_length h (omega arith)) g

  reached_filled : {next : ℕ → E → List E} {room : ℕ} {first s : List E} → Reached covers next first room (full s) → room ≤ length s
  reached_filled (short c b l b') = l

-- ---- of the function itself

module _ {E : Type 0} (covers : E → E → Bool) (next : ℕ → E → List E) (first : List E) where
  pub table_length : (room : ℕ) → length (entries (table covers next room first)) ≤ room
  table_length room = tabled_length (tables covers next room first)

  -- a table that lacks room is filled
  pub table_filled : (room : ℕ) {s : List E} → table covers next room first ≡ full s → length s ≡ room
  table_filled room e = let t = tabled covers next room first e in omega (arith, tabled_length t, reached_filled (table_built t))

  -- a table that ends with some room ends so with any room that has place for it, in particular with more
  pub table_fits : (room other : ℕ) {s : List E} → table covers next other first ≡ ended s → length s ≤ room → table covers next room first ≡ ended s
  table_fits room other e l = table_is covers next room (tabled_fits l (tabled covers next other first e))

  -- with any other it lacks room
  pub table_overfull : (room other : ℕ) {s : List E} → table covers next other first ≡ ended s → room < length s → (t : List E) × (table covers next room first ≡ full t)
  table_overfull room other {s} e l = at (table covers next room first) refl
    where
      at : (o : Outcome E) → table covers next room first ≡ o → (t : List E) × (table covers next room first ≡ full t)
      at (full t) f = (t, f)
      at (ended t) f =
          let low : length t ≤ room = rw f at (table_length room) in
          let high : length s ≤ other = rw e at (table_length other) in
          let g = table_fits other room f (omega arith) in
          let same : t ≡ s = cc in
          absurd (omega (arith, ap length same))
