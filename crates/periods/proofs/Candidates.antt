-- The candidates as the loops take them are those of the table, and comparing by masks gives the same table. Assumes nothing.
use mathlib.Core.Path.{◌≡◌, refl, sym, ap, ap₂, ◌∙◌, subst}
use mathlib.Core.Bool.{Bool, true, false, ◌&&◌, and-true}
use mathlib.Core.List.{List, [], ◌∷◌, map-id}
use Prim.Native.Nat.{ℕ, ◌+◌, ◌-◌, ◌^◌, ◌<◌}
use native.Mathlib.Omega.{arith}
use lib.Bits.{bit_and}
use mir.Syntax.{w32}
use Rattle.std.specs.Prelude.{Result, Ok, Err, IsErr}
use Rattle.std.specs.Int.{trailing_zeros}
use Rattle.growth.specs.declared.Full.{Full}
use Rattle.offering.specs.declared.Table.{Table}
use Rattle.offering.specs.Growing.{entries_of, Ready, Grows}
use lib.ListN.{get_or}
use Rattle.bits.specs.Bits.{bit}
use Rattle.bits.specs.Fields.{period_link, link_state}
use Rattle.bits.specs.Pairs.{rows_of}
use Rattle.bits.proofs.Truth.{or_left}
use Rattle.bits.proofs.Bits.{bit_zero}
use Rattle.acceptance.specs.Lasso.{Aut, opens}
use Rattle.acceptance.specs.Contexts.{Context, idle, longer}
use Rattle.acceptance.proofs.Contexts.{Fits, longer_fits}
use Rattle.growth.specs.Grow.{Outcome, ended, full, offer, table}
use Rattle.growth.specs.Steps.{gather, steps}
use Rattle.growth.proofs.Steps.{steps_same, steps_mem}
use Rattle.growth.proofs.Built.{Inherited}
use Rattle.growth.proofs.Carried.{mapped, table_map}
use Rattle.automata.specs.declared.Automaton.{Automaton}
use Rattle.automata.specs.declared.Head.{Head}
use Rattle.automata.specs.Loaded.{cell, aut_of, aut, steps_of, of_pairs}
use Rattle.covering.specs.Entries.{Period, period_covers}
use Rattle.periods.specs.declared.table.Word.{Word}
use Rattle.periods.specs.declared.table.Move.{Move}
use Rattle.periods.specs.Periods.{period_first, word_next, period_next, period_table}
use Rattle.covering.specs.Masks.{covers}
use Rattle.periods.specs.Candidates.{move_of, at_state, at_letter}
use Rattle.covering.proofs.Masks.{covers_contained}
use Rattle.periods.proofs.Going.{Going}
use Rattle.growth.proofs.Gathered.{gather_nothing}
use Rattle.periods.proofs.Loop.{from, loop_start, loop_end, loop_past, loop_full, loop_on}
use Rattle.periods.proofs.Rest.{Rest, rest_start, rest_none, low, less, from_i, here, between, rest_on}

-- ---- letter by letter

-- the candidate at a successor
pub state_some : (by : Move) (q : ℕ) {link : ℕ} → bit by.successors q ≡ true → link ≡ period_link q by.letter by.parent
    → record { link = link; context = of_pairs by.context } ∷ [] ≡ at_state by q
unfolding at_state
state_some by q p e = rw (p, e) refl

-- where it is none there is no candidate
pub state_none : (by : Move) (q : ℕ) → bit by.successors q ≡ false → at_state by q ≡ []
unfolding at_state
state_none by q p = rw p refl

-- ---- successor by successor: of those from i on, which are left, the table is still to get the candidates

pub record Left (by : Move) (rest : ℕ) (s t : Table) : Type 0 where
  i : ℕ
  members : Rest by.successors i rest
  going : Going (offer (covers s.rows) s.room (entries_of s) (at_letter by)) (from (at_state by) 16 s i) s t

pub left_start : (by : Move) {s : Table} → by.successors < 2 ^ 16 → Ready s → Left by by.successors s s
unfolding at_letter
left_start by {s} l ready = record { i = 0; members = rest_start by.successors l; going = loop_start (at_state by) 16 s ready }

module _ {by : Move} {rest : ℕ} {s t : Table} (l : Left by rest s t) where
  pub left_ready : Ready t
  left_ready = l.going.ready

  pub left_end : rest ≡ 0 → Grows (offer (covers s.rows) s.room (entries_of s) (at_letter by)) (Ok tt) s t
  left_end e =
      loop_end (at_state by) 16 s 16
      (loop_past (at_state by) 16 s l.i l.going 16 l.members.within (omega arith) (λ m h k. state_none by m (rest_none l.members e m h k))) (omega arith)

  -- the candidate at the lowest successor
  module _ (some : 0 < rest) {q : ℕ} (is : q ≡ trailing_zeros w32 rest) where
    pub left_low : q < 16
    left_low = low l.members some is

    pub left_less : bit_and rest (rest - 1) < rest
    left_less = less l.members some is

    going_here : Going (offer (covers s.rows) s.room (entries_of s) (at_letter by)) (from (at_state by) 16 s q) s t
    going_here = loop_past (at_state by) 16 s l.i l.going q (from_i l.members some is) (omega (arith, left_low)) (λ m h k. state_none by m (between l.members some is m h k))

    module _ {link : ℕ} (e : link ≡ period_link q by.letter by.parent) {r : Result (Unit {0}) Full} {t' : Table}
        (g : Grows (offer (covers t.rows) t.room (entries_of t) (record { link = link; context = of_pairs by.context } ∷ [])) r t t') where
      pub left_full : {o : Result (Unit {0}) Full} {lacks : Full} → r ≡ Err lacks → IsErr o → Grows (offer (covers s.rows) s.room (entries_of s) (at_letter by)) o s t'
      left_full = loop_full (at_state by) 16 s q going_here left_low (state_some by q (here l.members some is) e) g

      pub left_on : r ≡ Ok tt → Left by (bit_and rest (rest - 1)) s t'
      left_on ok = record { i = q + 1; members = rest_on l.members some is; going = loop_on (at_state by) 16 s q going_here left_low (state_some by q (here l.members some is) e) g ok }

module _ (model : List (List ℕ)) (B : Aut) (word : Word) where
  -- the candidates by the letter x
  unfoldable pub by_letter : ℕ → List Period
  by_letter x = at_letter (move_of model B word x)

  -- where it leads nowhere there is none
  pub letter_none : (x : ℕ) → get_or (get_or model x []) word.state 0 ≡ 0 → by_letter x ≡ []
  unfolding by_letter at_letter at_state move_of cell
  letter_none x e = gather_nothing (at_state (move_of model B word x)) 0 16 (λ q. rw (e, bit_zero))

  -- all letters
  pub letters_all : word_next (steps_of model) B word.state word.parent (of_pairs word.context) ≡ gather 0 16 by_letter
  unfolding word_next steps aut_of by_letter at_letter at_state move_of
  letters_all = refl

-- the word of an entry has the entry's candidates
pub word_entry : (A B : Aut) (e : Period) {p parent i : ℕ} {c : Context} → p ≡ link_state e.link → parent ≡ i → c ≡ e.context → word_next A B p parent c ≡ period_next A B i e
unfolding period_next
word_entry A B e {parent = parent} {i} {c} s j d =
    ap₂ (λ (p : ℕ) (d : Context). word_next A B p parent d) s d ∙ ap (λ (k : ℕ). word_next A B (link_state e.link) k e.context) j

-- where the model starts and what it accepts does not matter
pub heads_apart : (model : List (List ℕ)) (head : Head) (B : Aut) → period_next (steps_of model) B ≡ period_next (aut_of (cell model) head) B
unfolding period_next word_next aut_of
heads_apart model head B = refl

-- from an accepting state a period may start by every transition
accepting_opens : (A : Aut) (s x q : ℕ) → A.final s ≡ true → opens A s x q ≡ true
unfolding opens
accepting_opens A s x q h = or_left (A.final s) (A.mark s x q) h

-- so that the one-letter words are the candidates of the empty word, by each transition
first_letters : (model : List (List ℕ)) (head : Head) (B : Aut) (s : ℕ) → bit head.accepting s ≡ true
    → word_next (steps_of model) B s 65535 (idle 8 B.final) ≡ period_first (aut_of (cell model) head) B s
unfolding period_first word_next aut_of
first_letters model head B s h =
    let A = aut_of (cell model) head in
    sym (steps_same 16 16 (λ x q. A.step s x q && opens A s x q) (λ x q. A.step s x q)
    (λ x q. record { link = period_link q x 65535; context = longer 8 B (idle 8 B.final) x })
    (λ x q. ap (λ (b : Bool). A.step s x q && b) (accepting_opens A s x q h) ∙ and-true (A.step s x q)))

-- ---- masks

module _ (A B : Aut) (s target room : ℕ) where
  abbrev Bounded : Period → Type 0
  Bounded e = Fits 8 e.context

  bounded : Inherited Bounded (period_next A B) (period_first A B s)
  unfolding period_first period_next word_next
  bounded =
      record {
        good_first = λ c m.
            let made = steps_mem 16 16 (λ x q. A.step s x q && opens A s x q) (λ x q. record { link = period_link q x 65535; context = longer 8 B (idle 8 B.final) x }) m in
            subst Bounded (sym made.5) (longer_fits 8 B (idle 8 B.final) made.0);
        good_next = λ i e c g m.
            let made = steps_mem 16 16 (λ x q. A.step (link_state e.link) x q) (λ x q. record { link = period_link q x i; context = longer 8 B e.context x }) m in
            subst Bounded (sym made.5) (longer_fits 8 B e.context made.0);
      }

  pub table_masked : table (covers (rows_of 8 target)) (period_next A B) room (period_first A B s) ≡ period_table A B s target room
  unfolding period_table
  table_masked =
      ap (table (covers (rows_of 8 target)) (period_next A B) room) (sym (map-id (period_first A B s)))
      ∙ table_map {f = λ e. e} {Good = Bounded}
      (record { good = bounded; keeps = λ d c f g. covers_contained target d c f g; carries = λ i e g. sym (map-id (period_next A B i e)) }) room
      ∙ same (table (period_covers target) (period_next A B) room (period_first A B s))
    where
      same : (o : Outcome Period) → mapped (λ e. e) o ≡ o
      same (ended t) = ap ended (map-id t)
      same (full t) = ap full (map-id t)

-- ---- the table that the code grows is the written one

module _ (model rule : Automaton (List (List ℕ))) (s target room : ℕ) where
  pub table_period : {rows k : ℕ} {c : Context} → bit model.head.accepting s ≡ true → rows ≡ rows_of 8 target → k ≡ room → c ≡ idle 8 (aut rule).final
      → table (covers rows) (period_next (steps_of model.table) (aut rule)) k (word_next (steps_of model.table) (aut rule) s 65535 c) ≡ period_table (aut model) (aut rule) s target room
  unfolding aut_of
  table_period {k = k} {c} accepts same fits empty =
      ap₂ (λ (r : ℕ) (d : Context). table (covers r) (period_next (steps_of model.table) (aut rule)) k (word_next (steps_of model.table) (aut rule) s 65535 d)) same empty
      ∙ ap (λ (k : ℕ). table (covers (rows_of 8 target)) (period_next (steps_of model.table) (aut rule)) k (word_next (steps_of model.table) (aut rule) s 65535 (idle 8 (aut rule).final))) fits
      ∙ ap₂ (λ (next : ℕ → Period → List Period) (first : List Period). table (covers (rows_of 8 target)) next room first)
      (heads_apart model.table model.head (aut rule)) (first_letters model.table model.head (aut rule) s accepts)
      ∙ table_masked (aut model) (aut rule) s target room
