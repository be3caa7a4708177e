-- A loop that grows the table step by step: what is left to do with the entries that are there gives the outcome of the whole. Assumes nothing.
use mathlib.Core.Path.{◌≡◌, refl, sym, ap, ap₂, ◌∙◌, subst}
use mathlib.Core.List.{List, []}
use Prim.Native.Nat.{ℕ, ◌≤◌}
use native.Mathlib.Omega.{arith}
use lib.ListN.{length, length-map}
use Rattle.std.specs.Prelude.{Result, Ok, Err, IsErr}
use Rattle.growth.specs.declared.Full.{Full}
use Rattle.growth.specs.Grow.{Outcome, ended, onward, entries, offer}
use Rattle.growth.specs.Lent.{over}
use Rattle.growth.proofs.Offering.{ended_is, full_is, offer_longer, offer_within, over_over}
use Rattle.covering.specs.Entries.{Period, links_of, contexts_of, held}
use Rattle.covering.specs.Masks.{covers}
use Rattle.covering.specs.Chained.{Chained}
use Rattle.covering.proofs.Entries.{contexts_length, held_length, held_over}
use Rattle.offering.specs.declared.Table.{Table}
use Rattle.offering.specs.Lent.{Leaves}
use Rattle.offering.specs.Growing.{entries_of, counted, Keeps, Ready, Grows}
use Rattle.offering.proofs.Appended.{keeps_same, keeps_on, as_they_were}

-- the table that began as s has become t, whose entries stand over what came, and `rest` of these is the outcome o
pub record Going (o : Outcome Period) (rest : List Period → Outcome Period) (s t : Table) : Type 0 where
  pub ready : Ready t
  pub keeps : Keeps s t
  pub goal : rest (entries_of t) ≡ o
  pub links_left : t.links.now ≡ over (links_of (entries_of t)) s.links.now
  pub contexts_left : t.contexts.now ≡ over (contexts_of (entries_of t)) s.contexts.now

-- what is lacking is room
lacks_room : {A : Type 0} {q : Result A Full} {lacks : Full} → IsErr q → Err lacks ≡ q
lacks_room {q = Err lacks} e = refl
lacks_room {q = Ok u} e = cc

-- what is answered, with the number of the entries
pub answer_err : (n : ℕ) {r : Result (Unit {0}) Full} {q : Result ℕ Full} {lacks : Full} → r ≡ Err lacks → IsErr q → q ≡ counted r n
answer_err n e f = sym (ap (λ (r : Result (Unit {0}) Full). counted r n) e ∙ lacks_room f)

pub answer_ok : (n : ℕ) {r : Result (Unit {0}) Full} → r ≡ Ok tt → Ok n ≡ counted r n
answer_ok n e = sym (ap (λ (r : Result (Unit {0}) Full). counted r n) e)

-- an outcome that had room is held
module _ (done : Outcome Period) {r : Result (Unit {0}) Full} {t t' : Table} (is : r ≡ Ok tt) (g : Grows done r t t') where
  done_ends : (done ≡ ended (entries done)) × (length (entries done) ≡ t'.n)
  done_ends = ended_is done (answer_ok t'.n is ∙ g.lent.answer)

  done_held : entries_of t' ≡ entries done
  done_held =
      ap (λ (k : ℕ). held k t'.links.now t'.contexts.now) (sym done_ends.1)
      ∙ ap₂ (held (length (entries done))) g.lent.links_left g.lent.contexts_left ∙ held_over (entries done) t.links.now t.contexts.now

-- after candidates that had room the table is ready for more
ready_on : {t t' : Table} → Ready t → (cs : List Period) {r : Result (Unit {0}) Full} → r ≡ Ok tt
    → Grows (offer (covers t.rows) t.room (entries_of t) cs) r t t' → Ready t'
ready_on {t} {t'} ready cs is g =
    let done = offer (covers t.rows) t.room (entries_of t) cs in
    let k = g.keeps in
    record {
      roomy = record {
        within = omega (arith, k.room_kept, (done_ends done is g).1, offer_within (covers t.rows) t.room (entries_of t) cs (omega (arith, held_length t.links.now t.contexts.now t.n, ready.roomy.within)));
        small = omega (arith, k.room_kept, ready.roomy.small);
        links_fit = omega (arith, k.room_kept, k.links_long, ready.roomy.links_fit);
        contexts_fit = omega (arith, k.room_kept, k.contexts_long, ready.roomy.contexts_fit);
        chains_fit = omega (arith, k.room_kept, k.chains_long, ready.roomy.chains_fit);
        chains_short = omega (arith, k.chains_long, ready.roomy.chains_short);
      };
      chained = rw (k.rows_kept, done_held done is g) (g.chained is);
    }

-- it begins with the entries that are there
pub going : {s : Table} → Ready s → (rest : List Period → Outcome Period) → Going (rest (entries_of s)) rest s s
going {s} ready rest =
    let same : Leaves (ended (entries_of s)) (Ok (length (entries_of s))) s.links.now s.links.now s.contexts.now s.contexts.now = as_they_were ready.roomy refl refl in
    record { ready = ready; keeps = keeps_same s; goal = refl; links_left = same.links_left; contexts_left = same.contexts_left }

module _ {o : Outcome Period} {rest : List Period → Outcome Period} {s t : Table} (at : Going o rest s t) where
  long : length (entries_of t) ≡ t.n
  long = held_length t.links.now t.contexts.now t.n

  -- what is compared stays the same
  chained_begun : {es : List Period} {chains : List ℕ} → Chained (covers t.rows) es [] chains → Chained (covers s.rows) es [] chains
  chained_begun {es} {chains} c = subst (λ (rows : ℕ). Chained (covers rows) es [] chains) at.keeps.rows_kept c

  -- ---- what a step leaves of no fewer entries is over what came at first

  module _ (done : Outcome Period) (more : t.n ≤ length (entries done)) where
    links_over : {links : List ℕ} → links ≡ over (links_of (entries done)) t.links.now → links ≡ over (links_of (entries done)) s.links.now
    links_over e =
        e ∙ ap (over (links_of (entries done))) at.links_left
        ∙ over_over (links_of (entries_of t)) (links_of (entries done)) s.links.now
        (omega (arith, long, length-map (entries_of t) (λ (d : Period). d.link), length-map (entries done) (λ (d : Period). d.link)))

    contexts_over : {contexts : List ℕ} → contexts ≡ over (contexts_of (entries done)) t.contexts.now → contexts ≡ over (contexts_of (entries done)) s.contexts.now
    contexts_over e =
        e ∙ ap (over (contexts_of (entries done))) at.contexts_left
        ∙ over_over (contexts_of (entries_of t)) (contexts_of (entries done)) s.contexts.now
        (omega (arith, long, contexts_length (entries_of t), contexts_length (entries done)))

    -- the step that does the rest
    going_last : {r q : Result (Unit {0}) Full} {t' : Table} → rest (entries_of t) ≡ done → r ≡ q → Grows done r t t' → Grows o q s t'
    going_last {q = q} {t'} is e g =
        subst (λ (p : Outcome Period). Grows p q s t') (sym is ∙ at.goal)
        (record {
          keeps = keeps_on at.keeps g.keeps;
          count = g.count;
          lent = record {
            answer = ap (λ (r : Result (Unit {0}) Full). counted r t'.n) (sym e) ∙ g.lent.answer;
            links_left = links_over g.lent.links_left;
            contexts_left = contexts_over g.lent.contexts_left;
          };
          chained = λ is. chained_begun (g.chained (e ∙ is));
        })

  -- the rest by another name
  pub going_as : (again : List Period → Outcome Period) → again (entries_of t) ≡ rest (entries_of t) → Going o again s t
  going_as again e = record { ready = at.ready; keeps = at.keeps; goal = e ∙ at.goal; links_left = at.links_left; contexts_left = at.contexts_left }

  -- nothing is left to do
  pub going_end : rest (entries_of t) ≡ ended (entries_of t) → Grows o (Ok tt) s t
  going_end is =
      going_last (ended (entries_of t)) (omega (arith, long)) is refl
      (record { keeps = keeps_same t; count = sym long; lent = as_they_were at.ready.roomy refl (ap Ok (sym long)); chained = λ ok. at.ready.chained })

  -- ---- a step offers candidates, and the rest goes on with what they leave

  module _ (cs : List Period) (next : List Period → Outcome Period)
      (split : rest (entries_of t) ≡ onward (offer (covers s.rows) s.room (entries_of t) cs) next) {r : Result (Unit {0}) Full} {t' : Table}
      (g : Grows (offer (covers t.rows) t.room (entries_of t) cs) r t t') where
    abbrev done : Outcome Period
    done = offer (covers t.rows) t.room (entries_of t) cs

    more : t.n ≤ length (entries done)
    more = omega (arith, long, offer_longer (covers t.rows) t.room (entries_of t) cs)

    begun : rest (entries_of t) ≡ onward done next
    begun = split ∙ ap₂ (λ (rows room : ℕ). onward (offer (covers rows) room (entries_of t) cs) next) (sym at.keeps.rows_kept) (sym at.keeps.room_kept)

    -- where it lacked room, so does the whole
    pub going_full : {q : Result (Unit {0}) Full} {lacks : Full} → r ≡ Err lacks → IsErr q → Grows o q s t'
    going_full e f =
        let stop = full_is done (sym (ap (λ (r : Result (Unit {0}) Full). counted r t'.n) e) ∙ g.lent.answer) in
        going_last done more (begun ∙ ap (λ (p : Outcome Period). onward p next) stop ∙ sym stop) (e ∙ lacks_room f) g

    -- else the next step goes on
    pub going_on : r ≡ Ok tt → Going o next s t'
    going_on is =
        let holds = done_held done is g in
        record {
          ready = ready_on at.ready cs is g;
          keeps = keeps_on at.keeps g.keeps;
          goal = ap next holds ∙ sym (ap (λ (p : Outcome Period). onward p next) (done_ends done is g).0) ∙ sym begun ∙ at.goal;
          links_left = links_over done more g.lent.links_left ∙ ap (λ (es : List Period). over (links_of es) s.links.now) (sym holds);
          contexts_left = contexts_over done more g.lent.contexts_left ∙ ap (λ (es : List Period). over (contexts_of es) s.contexts.now) (sym holds);
        }

-- what is left of an outcome, by another name of it, in tables that were lent from these to those
pub leaves : {o p : Outcome Period} {r : Result (Unit {0}) Full} {q : Result ℕ Full} {links₀ links contexts₀ contexts : List ℕ} {s t : Table} → o ≡ p → Grows o r s t
    → q ≡ counted r t.n → s.links.now ≡ links₀ → s.contexts.now ≡ contexts₀ → links ≡ t.links.now → contexts ≡ t.contexts.now → Leaves p q links₀ links contexts₀ contexts
leaves {r = r} {s = s} {t} e g a l₀ c₀ l c = rw (← e, a, ← l₀, ← c₀, l, c) g.lent
