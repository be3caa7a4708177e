-- A candidate offered: covered, or appended. Assumes nothing.
use mathlib.Core.Path.{◌≡◌, refl, sym, ap, ◌∙◌, subst}
use mathlib.Core.Bool.{Bool, true, false, not}
use mathlib.Core.List.{List, [], ◌∷◌, ◌++◌}
use Prim.Native.Nat.{ℕ, suc, ◌+◌}
use native.Mathlib.Omega.{arith}
use borrow.Author.Tests.{ltb-true, ltb-false}
use lib.Dec.{ltb}
use lib.ListN.{length, get_or, set}
use Rattle.std.specs.Prelude.{Result, Ok}
use Rattle.bits.specs.Fields.{link_state}
use Rattle.growth.specs.declared.Full.{Full}
use Rattle.growth.specs.Grow.{Outcome, ended, full, entries, onward, append, covered, offer}
use Rattle.growth.specs.Lent.{growth_of}
use Rattle.growth.specs.Steps.{only}
use Rattle.growth.proofs.Grown.{append_room, append_full}
use Rattle.growth.proofs.Offering.{offer_covered}
use Rattle.covering.specs.Entries.{Period}
use Rattle.covering.specs.Masks.{covers}
use Rattle.covering.specs.Chained.{Chained}
use Rattle.covering.proofs.Entries.{held_length}
use Rattle.covering.proofs.Masks.{covers_state}
use Rattle.covering.proofs.Chain.{chained_append}
use Rattle.offering.specs.declared.Table.{Table}
use Rattle.offering.specs.Lent.{Leaves}
use Rattle.offering.specs.Growing.{entries_of, Keeps, counted, Ready, Grows}
use Rattle.offering.proofs.Appended.{as_they_were}

-- a candidate that is not covered is appended
offer_append : {E : Type 0} (covers : E → E → Bool) (room : ℕ) (t : List E) (c : E) → covered covers t c ≡ false → offer covers room t (c ∷ []) ≡ append room t c
unfolding offer
offer_append {E} covers room t c p = rw (p, offer) (same (append room t c))
  where
    same : (o : Outcome E) → onward o (λ s. offer covers room s []) ≡ o
    same (ended s) = refl
    same (full s) = refl

module _ {t : Table} (ready : Ready t) (e : Period) {b : Bool} {scanned : List ℕ} (p : b ≡ covered (covers t.rows) (entries_of t) e)
    (h : Chained (covers t.rows) (entries_of t) (only (not b) e) scanned) where
  -- with these chains its entries stay
  pub offered_covered : b ≡ true → (t' : Table) → Keeps t t' → t'.n ≡ t.n → t'.links.now ≡ t.links.now → t'.contexts.now ≡ t.contexts.now → t'.chains.now ≡ scanned
      → Grows (offer (covers t.rows) t.room (entries_of t) (e ∷ [])) (Ok tt) t t'
  offered_covered is t' k same links contexts chains = record {
    keeps = k;
    count = rw (there, same) (sym (held_length t.links.now t.contexts.now t.n));
    lent = rw (there, same, links, contexts) (as_they_were ready.roomy refl (ap Ok (sym (held_length t.links.now t.contexts.now t.n))));
    chained = λ ok. rw (there, chains) (subst (λ (b : Bool). Chained (covers t.rows) (entries_of t) (only (not b) e) scanned) is h);
  }
    where
      there : offer (covers t.rows) t.room (entries_of t) (e ∷ []) ≡ ended (entries_of t)
      there = offer_covered (covers t.rows) t.room (entries_of t) e (sym p ∙ is)

  -- its place in the chains is taken last
  pub offered_new : b ≡ false → length scanned ≡ length t.chains.now → {r : Result (Unit {0}) Full} {t' : Table} → Keeps t t' → t'.n ≡ length (entries (append t.room (entries_of t) e))
      → Leaves (append t.room (entries_of t) e) (counted r t'.n) t.links.now t'.links.now t.contexts.now t'.contexts.now
      → (r ≡ Ok tt → t'.chains.now ≡ set (set scanned (16 + t.n) (get_or scanned (link_state e.link) 0)) (link_state e.link) (suc t.n))
      → Grows (offer (covers t.rows) t.room (entries_of t) (e ∷ [])) r t t'
  offered_new is long {r} {t'} k all lent linked =
      rw (offer_append (covers t.rows) t.room (entries_of t) e (sym p ∙ is)) (record { keeps = k; count = all; lent = lent; chained = at (ltb t.n t.room) refl })
    where
      count : length (entries_of t) ≡ t.n
      count = held_length t.links.now t.contexts.now t.n

      gone : Chained (covers t.rows) (entries_of t) (e ∷ []) scanned
      gone = subst (λ (b : Bool). Chained (covers t.rows) (entries_of t) (only (not b) e) scanned) is h

      at : (b : Bool) → ltb t.n t.room ≡ b → r ≡ Ok tt → Chained (covers t.rows) (entries (append t.room (entries_of t) e)) [] t'.chains.now
      at true l ok =
          rw (append_room {room = t.room} (entries_of t) e (omega (arith, ltb-true t.n t.room l, count)), linked ok)
          (subst (λ (k : ℕ). Chained (covers t.rows) (entries_of t ++ (e ∷ [])) [] (set (set scanned (16 + k) (get_or scanned (link_state e.link) 0)) (link_state e.link) (suc k))) count
          (chained_append (covers t.rows) (entries_of t) e gone (omega (arith, ltb-true t.n t.room l, long, count, ready.roomy.chains_fit)) (λ d. covers_state t.rows e d) (omega arith)))
      at false l ok =
          let stop = append_full {room = t.room} (entries_of t) e (omega (arith, ltb-false t.n t.room l, count)) in
          absurd (cc (lent.answer ∙ ap growth_of stop, ap (λ (s : Result (Unit {0}) Full). counted s t'.n) ok))
