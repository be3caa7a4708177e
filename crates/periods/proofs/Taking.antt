-- The growth of the table: its first candidates, and then the entries taken in order. Assumes nothing.
use mathlib.Core.Path.{◌≡◌, refl, sym, ap, ap₂, ◌∙◌, subst}
use mathlib.Core.List.{List}
use Prim.Native.Nat.{ℕ, ◌+◌, ◌-◌, ◌≤◌, ◌<◌}
use native.Mathlib.Nat.{sub-zero}
use native.Mathlib.Omega.{arith}
use lib.ListN.{length}
use Rattle.std.specs.Prelude.{Result, Ok, Err, IsErr}
use Rattle.bits.specs.Bits.{values}
use Rattle.growth.specs.declared.Full.{Full}
use Rattle.growth.specs.Grow.{Outcome, onward, offer, grow, table}
use Rattle.growth.proofs.Grown.{grow_end}
use Rattle.growth.proofs.Offering.{grow_on}
use Rattle.covering.specs.Entries.{Period, entry_in, held}
use Rattle.covering.specs.Masks.{covers}
use Rattle.covering.proofs.Entries.{held_length, held_at}
use Rattle.offering.specs.declared.Table.{Table}
use Rattle.offering.specs.Growing.{entries_of, Ready, Grows}
use Rattle.periods.proofs.Going.{Going, going, going_as, going_end, going_full, going_on}

module _ (next : ℕ → Period → List Period) (s : Table) where
  -- what the entries from i on give
  unfoldable pub taking : ℕ → List Period → Outcome Period
  taking i es = grow (covers s.rows) next s.room (s.room - i) i es

  -- what these candidates give, and then the entries from i on
  unfoldable pub due : List Period → ℕ → List Period → Outcome Period
  due cs i es = onward (offer (covers s.rows) s.room es cs) (taking i)

  pub build_start : (cs : List Period) → s.n ≡ 0 → Ready s → Going (table (covers s.rows) next s.room cs) (due cs 0) s s
  unfolding held values due taking table
  build_start cs none ready =
      subst (λ (o : Outcome Period). Going o (due cs 0) s s)
      (ap₂ (λ (k f : ℕ). onward (offer (covers s.rows) s.room (held k s.links.now s.contexts.now) cs) (grow (covers s.rows) next s.room f 0)) none (sub-zero s.room)) (going ready (due cs 0))

  -- ---- the candidates are offered

  module _ (cs : List Period) (i : ℕ) {o : Outcome Period} {t : Table} (at : Going o (due cs i) s t) {r : Result (Unit {0}) Full} {t' : Table}
      (g : Grows (offer (covers t.rows) t.room (entries_of t) cs) r t t') where
    pub build_full : {q : Result (Unit {0}) Full} {lacks : Full} → r ≡ Err lacks → IsErr q → Grows o q s t'
    unfolding due
    build_full = going_full at cs (taking i) refl g

    -- and the next entry is taken
    module _ (ok : r ≡ Ok tt) where
      taken : Going o (taking i) s t'
      unfolding due
      taken = going_on at cs (taking i) refl g ok

      pub build_ready : Ready t'
      build_ready = taken.ready

      many : length (entries_of t') ≡ t'.n
      many = held_length t'.links.now t'.contexts.now t'.n

      pub build_end : t'.n ≤ i → Grows o (Ok tt) s t'
      unfolding taking
      build_end h = going_end taken (grow_end (covers s.rows) next s.room (s.room - i) (entries_of t') (omega (arith, many)))

      pub build_next : i < t'.n → {cs' : List Period} → cs' ≡ next i (entry_in t'.links.now t'.contexts.now i) → Going o (due cs' (i + 1)) s t'
      unfolding due taking
      build_next h {cs'} e = going_as taken (due cs' (i + 1))
          (ap (λ (c : List Period). due c (i + 1) (entries_of t')) e
          ∙ sym (grow_on (covers s.rows) s.room next i (entries_of t') (entry_in t'.links.now t'.contexts.now i) (omega (arith, many)) (omega (arith, many, build_ready.roomy.within, taken.keeps.room_kept))
          ∙ ap (λ (d : Period). onward (offer (covers s.rows) s.room (entries_of t') (next i d)) (taking (i + 1))) (held_at t'.links.now t'.contexts.now t'.n i (entry_in t'.links.now t'.contexts.now i) h)))
