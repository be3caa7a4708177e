-- A table that ended is closed: it covers the first candidates and those of each of its entries. Assumes nothing.
use mathlib.Core.Path.{◌≡◌}
use mathlib.Core.Bool.{Bool, true}
use mathlib.Core.List.Memᴰ
use mathlib.Core.List.{List, Memᴰ}
use Prim.Native.Nat.{ℕ, suc, ◌≤◌, ◌<◌}
use native.Mathlib.Omega.{arith}
use native.Mathlib.Decide.{dec_lt}
use Rattle.growth.specs.Grow.{ended, covered}
use Rattle.growth.proofs.Entries.{At, at_below, at_last, at_cut, at_unique}
use Rattle.growth.proofs.Covered.{covered_by, kept}
use Rattle.growth.proofs.Grown.{Extends, Offered, no_more, dropped, appended, offered_extends, Grown, all_taken, taken, grown_extends, Tabled, first_taken}

module _ {E : Type 0} (covers : E → E → Bool) where
  pub record Covers (t cs : List E) : Type 0 where
    pub covered_all : {c : E} → Memᴰ c cs → covered covers t c ≡ true

  pub record Closed (next : ℕ → E → List E) (t : List E) : Type 0 where
    pub at_entry : {i : ℕ} {e : E} → At t i e → Covers t (next i e)

  -- ---- what is offered to a table that ends is covered

  module _ (self : (c : E) → covers c c ≡ true) where
    offered_covers : {room : ℕ} {t cs s : List E} → Offered covers room t cs (ended s) → {c : E} → Memᴰ c cs → covered covers s c ≡ true
    offered_covers no_more m = absurd (Memᴰ.not-nil m)
    offered_covers (dropped {c = d} p h) (Memᴰ.head e) = rw e (kept covers (offered_extends h) d p)
    offered_covers (dropped p h) (Memᴰ.tail m) = offered_covers h m
    offered_covers {t = t} (appended {c = d} p l h) (Memᴰ.head e) = rw e (kept covers (offered_extends h) d (covered_by covers d (at_last t d) (self d)))
    offered_covers (appended p l h) (Memᴰ.tail m) = offered_covers h m

    module _ (next : ℕ → E → List E) where
      -- the entries below i have been taken
      record Upto (i : ℕ) (t : List E) : Type 0 where
        below : {j : ℕ} {e : E} → j < i → At t j e → Covers t (next j e)

      upto_next : {room i : ℕ} {t s : List E} {e : E} → At t i e → Offered covers room t (next i e) (ended s) → Upto i t → Upto (suc i) s
      upto_next {i = i} {t = t} {s = s} {e = e} a h u = record { below = λ {j} {e = d} l b. record { covered_all = λ {c} m. at j d c l (old b) m (dec_lt j i) } }
        where
          more : Extends t s
          more = offered_extends h

          old : {j : ℕ} {d : E} → At s j d → j ≤ i → At t j d
          old b l = at_cut t more.rest (omega (arith, at_below a)) (rw more.joined b)

          at : (j : ℕ) (d c : E) → j < suc i → (j ≤ i → At t j d) → Memᴰ c (next j d) → Dec (j < i) → covered covers s c ≡ true
          at j d c l b m (yes n) = kept covers more c ((u.below n (b (omega arith))).covered_all m)
          at j d c l b m (no n) =
              let q : j ≡ i = omega arith in
              let z : next j d ≡ next i e = cc (at_unique (rw q at (b (omega arith))) a) in
              offered_covers h (rw z at m)

      grown_closed : {room i : ℕ} {t s : List E} → Grown covers next room i t (ended s) → Upto i t → Closed next s
      grown_closed {i = i} (all_taken l) u = record { at_entry = λ a. u.below (omega (arith, at_below a)) a }
      grown_closed (taken a h g) u = grown_closed g (upto_next a h u)

      pub table_closed : {room : ℕ} {first s : List E} → Tabled covers next room first (ended s) → Closed next s × Covers s first
      table_closed (first_taken h g) = (
        grown_closed g (record { below = λ l. absurd (omega arith) }),
        record { covered_all = λ {c} m. kept covers (grown_extends g) c (offered_covers h m) },
      )
