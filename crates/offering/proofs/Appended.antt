-- An entry appended: what is written into the lent tables, and its place in the chains. Assumes nothing.
use mathlib.Core.Path.{◌≡◌, refl, sym, ap, ap₂, ◌∙◌}
use mathlib.Core.List.{List, [], ◌∷◌, ◌++◌, map-append, append_assoc}
use Prim.Native.Nat.{ℕ, ◌+◌, ◌*◌, ◌≤◌, ◌<◌}
use native.Mathlib.Omega.{arith}
use lib.ListN.{length, take, set, length-append}
use lib.Seq.{length-take-le}
use Rattle.std.specs.Prelude.{Result, Ok, Err}
use Rattle.bits.specs.Bits.{values}
use Rattle.growth.specs.declared.Full.{Full}
use Rattle.growth.specs.Grow.{Outcome, ended, full, entries, append}
use Rattle.growth.specs.Lent.{growth_of, over}
use Rattle.growth.proofs.Grown.{append_room, append_full}
use Rattle.growth.proofs.Offering.{over_self, over_set, set_over}
use Rattle.covering.specs.Entries.{Period, links_of, contexts_of, held}
use Rattle.covering.specs.Masks.{covers}
use Rattle.covering.specs.Chained.{Cleared}
use Rattle.covering.proofs.Entries.{contexts_append, held_length, links_held, contexts_held}
use Rattle.covering.proofs.Chain.{chained_none}
use Rattle.offering.specs.declared.Table.{Table}
use Rattle.offering.specs.Lent.{Leaves}
use Rattle.offering.specs.Growing.{entries_of, Keeps, Roomy, Ready}

-- what is kept is kept over two steps
pub keeps_on : {s t u : Table} → Keeps s t → Keeps t u → Keeps s u
keeps_on a b = record {
  links_kept = b.links_kept ∙ a.links_kept;
  contexts_kept = b.contexts_kept ∙ a.contexts_kept;
  chains_kept = b.chains_kept ∙ a.chains_kept;
  links_long = b.links_long ∙ a.links_long;
  contexts_long = b.contexts_long ∙ a.contexts_long;
  chains_long = b.chains_long ∙ a.chains_long;
  room_kept = b.room_kept ∙ a.room_kept;
  rows_kept = b.rows_kept ∙ a.rows_kept;
}

pub keeps_same : (t : Table) → Keeps t t
keeps_same t = record { links_kept = refl; contexts_kept = refl; chains_kept = refl; links_long = refl; contexts_long = refl; chains_long = refl; room_kept = refl; rows_kept = refl }

-- with no entry there are no chains
pub ready_none : {t : Table} → t.n ≡ 0 → t.room ≤ 65535 → t.room ≤ length t.links.now → 2 * t.room ≤ length t.contexts.now
    → 2 * (16 + t.room) ≤ length t.chains.now → length t.chains.now ≤ 131102 → Cleared t.chains.now → Ready t
unfolding held values
ready_none {t} none s l c f h e = record {
  roomy = record { within = omega arith; small = s; links_fit = l; contexts_fit = c; chains_fit = f; chains_short = h };
  chained = rw none (chained_none (covers t.rows) e);
}

module _ {t : Table} (ready : Roomy t) where
  abbrev n : ℕ
  n = t.n

  abbrev links : List ℕ
  links = t.links.now

  abbrev contexts : List ℕ
  contexts = t.contexts.now

  -- nothing is written
  pub as_they_were : {o : Outcome Period} {r : Result ℕ Full} → entries o ≡ entries_of t → r ≡ growth_of o → Leaves o r links links contexts contexts
  as_they_were e a = record {
    answer = a;
    links_left =
        sym (ap (λ (es : List Period). over (links_of es) links) e
        ∙ ap (λ (ns : List ℕ). over ns links) (links_held links contexts n (omega (arith, ready.within, ready.links_fit))) ∙ over_self n links (omega (arith, ready.within, ready.links_fit)));
    contexts_left =
        sym (ap (λ (es : List Period). over (contexts_of es) contexts) e
        ∙ ap (λ (ns : List ℕ). over ns contexts) (contexts_held links contexts n (omega (arith, ready.within, ready.contexts_fit)))
        ∙ over_self (2 * n) contexts (omega (arith, ready.within, ready.contexts_fit)));
  }

  many : length (entries_of t) ≡ n
  many = held_length links contexts n

  -- where room is lacking
  module _ (e : Period) (l : t.room ≤ n) where
    full_is : append t.room (entries_of t) e ≡ full (entries_of t)
    full_is = append_full {room = t.room} (entries_of t) e (omega (arith, many))

    pub none_count : n ≡ length (entries (append t.room (entries_of t) e))
    none_count = rw full_is (sym many)

    pub none_written : Leaves (append t.room (entries_of t) e) (Err (record {})) links links contexts contexts
    none_written = rw full_is (as_they_were refl refl)

  -- an entry is written after the last one
  module _ (e : Period) (l : n < t.room) where
    more_is : append t.room (entries_of t) e ≡ ended (entries_of t ++ (e ∷ []))
    more_is = append_room {room = t.room} (entries_of t) e (omega (arith, many))

    more : n + 1 ≡ length (entries_of t ++ (e ∷ []))
    more = omega (arith, length-append (entries_of t) (e ∷ []), many)

    pub more_count : n + 1 ≡ length (entries (append t.room (entries_of t) e))
    more_count = rw more_is more

    pub written : Leaves (append t.room (entries_of t) e) (Ok (n + 1)) links (set links n e.link)
        contexts (set (set contexts (2 * n) e.context.reach) (2 * n + 1) e.context.through)
    unfolding contexts_of
    written = rw more_is (record { answer = ap Ok more; links_left = links_left; contexts_left = contexts_left })
      where
        links_left : set links n e.link ≡ over (links_of (held n links contexts ++ (e ∷ []))) links
        links_left =
            set_over n links e.link (omega (arith, ready.links_fit))
            ∙ ap (λ (ns : List ℕ). over ns links)
            (sym (map-append (λ (d : Period). d.link) (held n links contexts) (e ∷ [])
            ∙ ap (λ (ns : List ℕ). ns ++ (e.link ∷ [])) (links_held links contexts n (omega (arith, ready.links_fit)))))

        contexts_left : set (set contexts (2 * n) e.context.reach) (2 * n + 1) e.context.through ≡ over (contexts_of (held n links contexts ++ (e ∷ []))) contexts
        contexts_left =
            let first = take (2 * n) contexts ++ (e.context.reach ∷ []) in
            let wide : length first ≡ 2 * n + 1 = omega (arith, length-append (take (2 * n) contexts) (e.context.reach ∷ []), length-take-le (2 * n) contexts (omega (arith, ready.contexts_fit))) in
            ap₂ (λ (ns : List ℕ) (k : ℕ). set ns k e.context.through) (set_over (2 * n) contexts e.context.reach (omega (arith, ready.contexts_fit))) (sym wide)
            ∙ over_set first contexts e.context.through (omega (arith, ready.contexts_fit))
            ∙ ap (λ (ns : List ℕ). over ns contexts)
            (append_assoc (take (2 * n) contexts) (e.context.reach ∷ []) (e.context.through ∷ [])
            ∙ sym (contexts_append (held n links contexts) (e ∷ [])
            ∙ ap (λ (ns : List ℕ). ns ++ (e.context.reach ∷ e.context.through ∷ [])) (contexts_held links contexts n (omega (arith, ready.contexts_fit)))))
