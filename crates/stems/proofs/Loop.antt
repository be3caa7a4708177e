-- A table that grows in a loop: what one candidate does, and that the rest of the loop gives what the whole gives. Assumes nothing.
use mathlib.Core.Path.{◌≡◌, refl, sym, ap, ap₂, ◌∙◌}
use mathlib.Core.Bool.{Bool, true, false}
use mathlib.Core.List.{List, [], ◌∷◌, ◌++◌}
use Rattle.std.specs.Prelude.{Result, Ok, Err, IsErr}
use Prim.Native.Nat.{ℕ, ◌+◌, ◌-◌, ◌%◌, ◌≤◌, ◌<◌}
use native.Mathlib.Omega.{arith}
use lib.ListN.{length, get_or, take, set, length-append}
use lib.Seq.{length-take-le, get_or-take}
use Rattle.std.proofs.lemmas.List.{take_more_set}
use Rattle.growth.specs.Grow.{Outcome, ended, full, onward, entries, covered, offer, grow}
use Rattle.growth.specs.Lent.{growth_of, over}
use Rattle.growth.specs.declared.Full.{Full}
use Rattle.growth.proofs.Grown.{grow_end}
use Rattle.growth.proofs.Offering.{offer_none, offer_covered, offer_appended, offer_full, offer_longer, grow_on, over_self, over_over, take_over, set_over}
use Rattle.stems.specs.declared.growing.Growing.{Growing}
use Rattle.stems.specs.Stems.{stem_covers}
use Rattle.stems.specs.Held.{Held}
use Rattle.stems.specs.Flags.{flag_at, Marked, Raised}
use Rattle.stems.specs.Growing.{held, offered, Grown, answer_of, Kept}
use Rattle.stems.proofs.Flags.{look, marked_more}

-- ---- answers

-- the exit of a `?` returns the one error
pub err_is : (o : Outcome ℕ) {err : Full} {r' : Result (Unit {0}) Full} → Err err ≡ answer_of o → IsErr r' → r' ≡ answer_of o
err_is (ended t) e x = cc
err_is (full t) {r' = Ok u} e x = cc
err_is (full t) {r' = Err err} e x = refl

full_is : (o : Outcome ℕ) {err : Full} → Err err ≡ answer_of o → o ≡ full (entries o)
full_is (ended t) e = cc
full_is (full t) e = refl

ended_is : (o : Outcome ℕ) {u : Unit {0}} → Ok u ≡ answer_of o → o ≡ ended (entries o)
ended_is (ended t) e = refl
ended_is (full t) e = cc

-- ---- the flags with an entry more

pub marked_appended : (g : Growing) (e : ℕ) {marks : List ℕ} → g.n < g.room → Raised g.largest e g.marks marks → Marked g.largest (take (g.n + 1) (set g.table.now g.n e)) marks
marked_appended g e l raised = rw (take_more_set g.table.now g.n e (omega (arith, l, g.lent))) (marked_more g.largest e g.marked raised)

-- ---- no candidate, or one

module _ (g : Growing) where
  long : length (held g) ≡ g.n
  long = length-take-le g.n g.table.now (omega (arith, g.within, g.lent))

  pub grown_self : Grown g g
  grown_self = record {
    same_reference = refl;
    same_room = refl;
    same_largest = refl;
    beyond = sym (over_self g.n g.table.now (omega (arith, g.within, g.lent)));
  }

  unchanged : {o : Outcome ℕ} {r : Result (Unit {0}) Full} → o ≡ ended (held g) → r ≡ Ok tt → Kept o g g r
  unchanged e a = record { grown = grown_self; holds = sym (ap entries e); answer = a ∙ sym (ap answer_of e) }

  pub kept_none : Kept (offered g []) g g (Ok tt)
  kept_none = unchanged (offer_none (stem_covers g.largest) g.room (held g)) refl

  module _ (e : ℕ) {b : Bool} (looked : b ≡ flag_at g.marks (e % 4096)) where
    told : covered (stem_covers g.largest) (held g) e ≡ b
    told = sym (looked ∙ look g.largest e g.marked)

    pub kept_covered : b ≡ true → Kept (offered g (e ∷ [])) g g (Ok tt)
    kept_covered f = unchanged (offer_covered (stem_covers g.largest) g.room (held g) e (told ∙ f)) refl

    pub kept_full : b ≡ false → g.room ≤ g.n → Kept (offered g (e ∷ [])) g g (Err (record {}))
    kept_full f l =
        let fills = offer_full (stem_covers g.largest) g.room (held g) e (told ∙ f) (omega (arith, long)) in
        record { grown = grown_self; holds = sym (ap entries fills); answer = sym (ap answer_of fills) }

    pub kept_appended : {new : Growing} → b ≡ false → g.n < g.room → new.table.ghost_name ≡ g.table.ghost_name → new.room ≡ g.room → new.largest ≡ g.largest
        → new.n ≡ g.n + 1 → new.table.now ≡ set g.table.now g.n e → Raised g.largest e g.marks new.marks → Kept (offered g (e ∷ [])) g new (Ok tt)
    kept_appended {new} f l reference room largest n table raised =
        record {
          grown =
              record {
                same_reference = reference;
                same_room = room;
                same_largest = largest;
                beyond = is ∙ ap (λ (t : List ℕ). over t g.table.now) (sym more);
              };
          holds = more ∙ sym (ap entries appends);
          answer = sym (ap answer_of appends);
        }
      where
        t : List ℕ
        t = held g ++ (e ∷ [])

        appends : offered g (e ∷ []) ≡ ended (held g ++ (e ∷ []))
        appends = offer_appended (stem_covers g.largest) g.room (held g) e (told ∙ f) (omega (arith, long))

        is : new.table.now ≡ over (held g ++ (e ∷ [])) g.table.now
        is = table ∙ set_over g.n g.table.now e (omega (arith, g.lent))

        count : new.n ≡ length (held g ++ (e ∷ []))
        count = omega (arith, n, long, length-append (held g) (e ∷ []))

        more : held new ≡ held g ++ (e ∷ [])
        more = ap₂ (λ (k : ℕ) (s : List ℕ). take k s) count is ∙ take_over (held g ++ (e ∷ [])) g.table.now

-- ---- a loop

-- `old` has grown to `new`, and what is still to come of the entries is what comes of the whole
pub record Going (whole rest : Outcome ℕ) (old new : Growing) : Type 0 where
  pub grown : Grown old new
  pub same : rest ≡ whole

-- twice grown, the second time to no fewer entries
grown_on : {old g new : Growing} → Grown old g → Grown g new → length (held g) ≤ length (held new) → Grown old new
grown_on {old} {g} {new} a b l = record {
  same_reference = b.same_reference ∙ a.same_reference;
  same_room = b.same_room ∙ a.same_room;
  same_largest = b.same_largest ∙ a.same_largest;
  beyond = b.beyond ∙ ap (over (held new)) a.beyond ∙ over_over (held g) (held new) old.table.now l;
}

module _ {whole : Outcome ℕ} where
  pub going_from : (g : Growing) → Going whole whole g g
  going_from g = record { grown = grown_self g; same = refl }

  pub going_end : {rest : Outcome ℕ} {old new : Growing} → Going whole rest old new → rest ≡ ended (held new) → Kept whole old new (Ok tt)
  going_end g e = record { grown = g.grown; holds = sym (ap entries (sym g.same ∙ e)); answer = sym (ap answer_of (sym g.same ∙ e)) }

  -- what comes of the rest is kept, and with it the whole
  pub going_last : {rest : Outcome ℕ} {old g new : Growing} {r : Result (Unit {0}) Full} → Going whole rest old g → length (held g) ≤ length (entries rest) → Kept rest g new r
      → Kept whole old new r
  going_last {new = new} at l k = record {
    grown = grown_on at.grown k.grown (omega (arith, l, ap length k.holds));
    holds = k.holds ∙ ap entries at.same;
    answer = k.answer ∙ ap answer_of at.same;
  }

  -- some candidates, and what follows on them
  module _ (cs : List ℕ) (next : List ℕ → Outcome ℕ) {rest : Outcome ℕ} {old g new : Growing} {r : Result (Unit {0}) Full} (at : Going whole rest old g)
      (e : rest ≡ onward (offer (stem_covers old.largest) old.room (held g) cs) next) (k : Kept (offered g cs) g new r) where
    split : whole ≡ onward (offered g cs) next
    split =
        sym at.same ∙ e
        ∙ ap₂ (λ (largest : Bool) (room : ℕ). onward (offer (stem_covers largest) room (held g) cs) next) (sym at.grown.same_largest) (sym at.grown.same_room)

    on : Grown old new
    on = grown_on at.grown k.grown (omega (arith, offer_longer (stem_covers g.largest) g.room (held g) cs, ap length k.holds))

    -- the exit of a `?`
    pub going_full : {err : Full} {r' : Result (Unit {0}) Full} → r ≡ Err err → IsErr r' → Kept whole old new r'
    going_full f x =
        let fills : whole ≡ full (entries (offered g cs)) = split ∙ ap (λ (p : Outcome ℕ). onward p next) (full_is (offered g cs) (sym f ∙ k.answer)) in
        record { grown = on; holds = k.holds ∙ sym (ap entries fills); answer = err_is (offered g cs) (sym f ∙ k.answer) x ∙ ap answer_of (full_is (offered g cs) (sym f ∙ k.answer)) ∙ sym (ap answer_of fills) }

    pub going_on : {u : Unit {0}} → r ≡ Ok u → Going whole (next (held new)) old new
    going_on f = record {
      grown = on;
      same = ap next k.holds ∙ sym (split ∙ ap (λ (p : Outcome ℕ). onward p next) (ended_is (offered g cs) (sym f ∙ k.answer)));
    }

-- ---- one entry taken, or none left

module _ (next : ℕ → ℕ → List ℕ) {old g : Growing} (grown : Grown old g) where
  abbrev taken : ℕ → List ℕ → Outcome ℕ
  taken i = grow (stem_covers old.largest) next old.room (old.room - i) i

  pub take_one : (i : ℕ) → i < g.n
      → taken i (held g) ≡ onward (offer (stem_covers old.largest) old.room (held g) (next i (get_or g.table.now i 0))) (taken (i + 1))
  take_one i l =
      grow_on (stem_covers old.largest) old.room next i (held g) 0 (omega (arith, long g)) (omega (arith, long g, g.within, grown.same_room))
      ∙ ap (λ (e : ℕ). onward (offer (stem_covers old.largest) old.room (held g) (next i e)) (taken (i + 1))) (get_or-take g.n g.table.now i 0 l)

  pub take_none : (i : ℕ) → g.n ≤ i → taken i (held g) ≡ ended (held g)
  take_none i l = grow_end (stem_covers old.largest) next old.room (old.room - i) (held g) (omega (arith, long g))

-- ---- the whole

-- what the lent table then holds, and the number of its entries
module _ {o : Outcome ℕ} {old new : Growing} {r : Result (Unit {0}) Full} (k : Kept o old new r) {t : List ℕ} (is : t ≡ new.table.now) where
  onto : t ≡ over (entries o) old.table.now
  onto = is ∙ k.grown.beyond ∙ ap (λ (s : List ℕ). over s old.table.now) k.holds

  pub held_full : {err : Full} {r' : Result ℕ Full} → r ≡ Err err → IsErr r' → Held o old.table.now t r'
  held_full {r' = r'} f x = record { answer = answers r' x o (sym f ∙ k.answer); holds = onto }
    where
      answers : (r' : Result ℕ Full) → IsErr r' → (o : Outcome ℕ) {err : Full} → Err err ≡ answer_of o → r' ≡ growth_of o
      answers (Ok n) x o e = cc
      answers (Err err) x (ended t) e = cc
      answers (Err err) x (full t) e = refl

  pub held_all : {u : Unit {0}} → r ≡ Ok u → Held o old.table.now t (Ok new.n)
  held_all f = record {
    answer = ap Ok (sym (long new) ∙ ap length k.holds) ∙ sym (ap growth_of (ended_is o (sym f ∙ k.answer)));
    holds = onto;
  }
