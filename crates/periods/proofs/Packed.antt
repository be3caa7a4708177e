-- The period tables are those whose entries carry their words: the fields of a link are read back, parents stand before their children, and with k
-- rows there are at most a · 3 ^ (k · b) entries. Assumes nothing.
use mathlib.Core.Path.{◌≡◌, refl, sym, ap, ◌∙◌, subst}
use mathlib.Core.Logic.{◌⊎◌, inl, inr}
use mathlib.Core.Bool.{◌&&◌}
use mathlib.Core.List.{List, [], ◌∷◌, map, Memᴰ}
use Prim.Native.Nat.{ℕ, ◌*◌, ◌^◌, ◌≤◌, ◌<◌}
use lib.ListN.{length, get_or, length-map}
use Rattle.bits.specs.Sets.{SetIs}
use Rattle.bits.specs.Fields.{period_link, link_state, link_letter, link_parent}
use Rattle.bits.proofs.Fields.{link_state_lem, link_letter_lem, link_parent_lem}
use Rattle.acceptance.specs.Lasso.{Word, Aut, Reach, opens}
use Rattle.acceptance.specs.Contexts.{Small, Context, idle, longer}
use Rattle.growth.specs.Grow.{Outcome, entries, table, Complete}
use Rattle.growth.specs.Numbered.{Numbered, Bounded}
use Rattle.growth.specs.Nodes.{Node, seed, child}
use Rattle.growth.specs.Tables.{contained, members, one_letter, period_nodes}
use Rattle.growth.proofs.Entries.{At, Each, at_below, at_map, at_get_d, entry_map}
use Rattle.growth.proofs.Steps.{steps_mem, map_steps}
use Rattle.growth.proofs.Carried.{mapped, mapped_entries}
use Rattle.growth.proofs.Linked.{Linked, starting, following, linked}
use Rattle.growth.proofs.Packing.{Fits, Read, packed_table, fits_entries, complete_mapped, mapped_complete, mapped_length}
use Rattle.growth.proofs.Periods.{periods_fit, periods_end, all_rows}
use Rattle.covering.specs.Entries.{Period, period_covers}
use Rattle.periods.specs.Periods.{period_first, word_next, period_next, period_table}

-- an entry without its word
pack : ℕ → Context → ℕ → ℕ → Period
pack state context letter parent = record { link = period_link state letter parent; context = context }

abbrev pub period_packed : Node Context → Period
period_packed e = record { link = period_link e.state e.letter e.parent; context = e.load }

abbrev PeriodFits : Node Context → Type 0
PeriodFits = Fits 16 16 (λ c. Unit {0})

-- the link at an index
abbrev pub link_at : List Period → ℕ → ℕ
link_at v j = get_or (map (λ (p : Period). p.link) v) j 0

-- the table with its words, and the entries of both
abbrev pub period_words : (A B : Aut) (s rows room : ℕ) → Outcome (Node Context)
period_words A B s rows room = period_nodes 16 16 8 A B s rows room

abbrev pub period_entries : (A B : Aut) (s rows room : ℕ) → List (Node Context)
period_entries A B s rows room = entries (period_words A B s rows room)

abbrev pub packed_periods : (A B : Aut) (s rows room : ℕ) → List Period
packed_periods A B s rows room = entries (period_table A B s rows room)

abbrev state_of : Period → ℕ
state_of e = link_state e.link

abbrev context_of : Period → Context
context_of e = e.context

period_read : (e : Node Context) → PeriodFits e → Read pack state_of context_of e
unfolding pack
period_read e h = record { state_read = link_state_lem e.state e.letter e.parent h.state_fits h.letter_fits; load_read = refl }

module _ (A B : Aut) (s rows room : ℕ) where
  fits_first : (c : Node Context) → Memᴰ c (one_letter 16 16 8 A B s) → PeriodFits c
  unfolding one_letter child seed
  fits_first c m =
      let (x, q, l, k, _, same) = steps_mem 16 16 (λ x q. A.step s x q && opens A s x q) (child (longer 8 B) 65535 (seed (idle 8 B.final) s)) m in
      rw same (record { state_fits = k; letter_fits = l; load_fits = tt })

  first_packed : map period_packed (one_letter 16 16 8 A B s) ≡ period_first A B s
  unfolding period_first one_letter child seed
  first_packed = map_steps period_packed 16 16 (λ x q. A.step s x q && opens A s x q) (child (longer 8 B) 65535 (seed (idle 8 B.final) s))

  period_packed_lem : period_table A B s rows room ≡ mapped period_packed (period_words A B s rows room)
  unfolding period_table period_covers word_next period_next period_nodes pack
  period_packed_lem = ap (table (period_covers rows) (period_next A B) room) (sym first_packed)
      ∙ packed_table pack state_of context_of A (longer 8 B) (λ c x h. tt) period_read fits_first (contained 8 rows) room

  period_fits : Each PeriodFits (period_entries A B s rows room)
  unfolding period_nodes
  period_fits = fits_entries pack state_of context_of A (longer 8 B) (λ c x h. tt) period_read fits_first (contained 8 rows) room

  period_entries_lem : packed_periods A B s rows room ≡ map period_packed (period_entries A B s rows room)
  period_entries_lem = ap entries period_packed_lem ∙ mapped_entries period_packed (period_words A B s rows room)

  -- one of them lacks room where the other does
  pub period_complete : Complete (period_table A B s rows room) → Complete (period_words A B s rows room)
  period_complete e = mapped_complete period_packed (period_words A B s rows room) (subst Complete period_packed_lem e)

  -- ---- the entry at an index, and its fields

  pub period_entry : (j : ℕ) → j < length (packed_periods A B s rows room) → (e : Node Context) × At (period_entries A B s rows room) j e
  period_entry j l = entry_map period_packed (period_entries A B s rows room) j (rw period_entries_lem at l)

  pub period_linked : {j : ℕ} {e : Node Context} → At (period_entries A B s rows room) j e → Linked (one_letter 16 16 8 A B s) (period_entries A B s rows room) j e
  unfolding period_nodes
  period_linked a = linked 16 16 A (longer 8 B) (contained 8 rows) room (one_letter 16 16 8 A B s) a

  -- the one-letter words have no parent
  pub one_letter_lem : {c : Node Context} → Memᴰ c (one_letter 16 16 8 A B s) → (c.parent ≡ 65535) × (c.word ≡ c.letter ∷ [])
  unfolding one_letter child seed
  one_letter_lem m =
      let (x, q, _, _, _, same) = steps_mem 16 16 (λ x q. A.step s x q && opens A s x q) (child (longer 8 B) 65535 (seed (idle 8 B.final) s)) m in
      (rw same, rw same)

  module _ {j : ℕ} {e : Node Context} (a : At (period_entries A B s rows room) j e) where
    pub period_below : j < length (packed_periods A B s rows room)
    period_below = rw (period_entries_lem, length-map (period_entries A B s rows room) period_packed) (at_below a)

    -- as `get_or` finds them among the links and among the contexts
    link_at_lem : link_at (packed_periods A B s rows room) j ≡ period_link e.state e.letter e.parent
    link_at_lem = rw period_entries_lem (at_get_d 0 (at_map (λ (p : Period). p.link) (at_map period_packed a)))

    pub context_at : (none : Context) → get_or (map (λ (p : Period). p.context) (packed_periods A B s rows room)) j none ≡ e.load
    context_at none = rw period_entries_lem (at_get_d none (at_map (λ (p : Period). p.context) (at_map period_packed a)))

    pub state_at : link_state (link_at (packed_periods A B s rows room) j) ≡ e.state
    state_at = let h = period_fits.each a in rw link_at_lem (link_state_lem e.state e.letter e.parent h.state_fits h.letter_fits)

    pub letter_at : link_letter (link_at (packed_periods A B s rows room) j) ≡ e.letter
    letter_at = let h = period_fits.each a in rw link_at_lem (link_letter_lem e.state e.letter e.parent h.state_fits h.letter_fits)

    pub parent_at : link_parent (link_at (packed_periods A B s rows room) j) ≡ e.parent
    parent_at = let h = period_fits.each a in rw link_at_lem (link_parent_lem e.state e.letter e.parent h.state_fits h.letter_fits)

  -- ---- what the packed entries have

  pub period_parents : (j : ℕ) → j < length (packed_periods A B s rows room)
      → (link_parent (link_at (packed_periods A B s rows room) j) ≡ 65535) ⊎ (link_parent (link_at (packed_periods A B s rows room) j) < j)
  period_parents j l = let (e, a) = period_entry j l in rw (parent_at a) (at (period_linked a))
    where
      at : {e : Node Context} → Linked (one_letter 16 16 8 A B s) (period_entries A B s rows room) j e → (e.parent ≡ 65535) ⊎ (e.parent < j)
      at (starting m) = inl (one_letter_lem m).0
      at (following d k b w) = inr k

-- ---- at most a · 3 ^ (k · b) entries, which is room enough

module _ {A B : Aut} (bound : Bounded 16 16 A) (small : Small 8 B) {a b : ℕ} (by-a : Numbered a A) (by-b : Numbered b B) {s rows : ℕ} {u w : Word} (reached : Reach A A.start u s) (rows_are : SetIs 8 rows (Reach B B.start w)) (room : ℕ) where
  pub period_bound : length (packed_periods A B s rows room) ≤ a * 3 ^ (length (members 8 rows) * b)
  period_bound = rw (period_packed_lem A B s rows room, mapped_length period_packed (period_words A B s rows room)) (periods_fit bound small s rows_are room by-a by-b reached (λ q h. (w, h)))

  -- all of them, since B has at most b rows
  pub period_bound_all : a * 3 ^ (length (members 8 rows) * b) ≤ a * 3 ^ (b * b)
  period_bound_all = all_rows bound small s rows_are room by-a by-b reached (λ q h. (w, h))

  pub period_enough : a * 3 ^ (length (members 8 rows) * b) ≤ room → Complete (period_table A B s rows room)
  period_enough l = rw (period_packed_lem A B s rows room) (complete_mapped period_packed (period_words A B s rows room) (periods_end bound small s rows_are room by-a by-b reached (λ q h. (w, h)) l))
