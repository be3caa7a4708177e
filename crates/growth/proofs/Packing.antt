-- Tables of packed entries: where the state and the load can be read off what an entry is packed into, the table of packed entries is the table of
-- entries that carry their words. Assumes nothing.
use mathlib.Core.Path.{◌≡◌, refl, sym, ap, ap₂, ◌∙◌}
use mathlib.Core.Bool.{Bool, ◌&&◌}
use mathlib.Core.List.{List, map, Memᴰ}
use Prim.Native.Nat.{ℕ, ◌<◌}
use lib.ListN.{length, length-map}
use lib.Dec.{eqb}
use Rattle.acceptance.specs.Lasso.{Aut}
use Rattle.growth.specs.Grow.{Outcome, ended, full, entries, table, Complete}
use Rattle.growth.specs.Steps.{steps}
use Rattle.growth.specs.Nodes.{Node, child, children, covers_by, node_table}
use Rattle.growth.proofs.Entries.{Each}
use Rattle.growth.proofs.Built.{Inherited, table_good}
use Rattle.growth.proofs.Carried.{mapped, mapped_entries, table_map}
use Rattle.growth.proofs.Steps.{steps_mem, map_steps}

-- a table that is carried over lacks room where the other does
module _ {E F : Type 0} (f : E → F) where
  pub complete_mapped : (o : Outcome E) → Complete o → Complete (mapped f o)
  complete_mapped (ended t) e = refl
  complete_mapped (full t) e = absurd cc

  pub mapped_complete : (o : Outcome E) → Complete (mapped f o) → Complete o
  mapped_complete (ended t) e = refl
  mapped_complete (full t) e = absurd cc

  pub mapped_length : (o : Outcome E) → length (entries (mapped f o)) ≡ length (entries o)
  mapped_length o = ap length (mapped_entries f o) ∙ length-map (entries o) f

-- the fields of an entry do not run into each other
pub record Fits (letters states : ℕ) {L : Type 0} (Load : L → Type 0) (e : Node L) : Type 0 where
  pub state_fits : e.state < states
  pub letter_fits : e.letter < letters
  pub load_fits : Load e.load

-- the state and the load are read back
pub record Read {L F : Type 0} (pack : ℕ → L → ℕ → ℕ → F) (state_of : F → ℕ) (load_of : F → L) (e : Node L) : Type 0 where
  pub state_read : state_of (pack e.state e.load e.letter e.parent) ≡ e.state
  pub load_read : load_of (pack e.state e.load e.letter e.parent) ≡ e.load

module _ {L F : Type 0} (pack : ℕ → L → ℕ → ℕ → F) (state_of : F → ℕ) (load_of : F → L) where
  abbrev pub packed : Node L → F
  packed e = pack e.state e.load e.letter e.parent

  module _ {letters states : ℕ} (A : Aut) (advance : L → ℕ → L) {Load : L → Type 0} (advanced : (c : L) (x : ℕ) → Load c → Load (advance c x))
      (reads : (e : Node L) → Fits letters states Load e → Read pack state_of load_of e) {first : List (Node L)} (fits_first : (c : Node L) → Memᴰ c first → Fits letters states Load c) where
    fitting : Inherited (Fits letters states Load) (children letters states A advance) first
    unfolding children child
    fitting = record {
      good_first = fits_first;
      good_next = λ i e c h m.
          let (x, q, l, k, _, same) = steps_mem letters states (λ x q. A.step e.state x q) (child advance i e) m in
          rw same (record { state_fits = k; letter_fits = l; load_fits = advanced e.load x h.load_fits });
    }

    -- the two tables are one
    pub packed_table : (test : L → L → Bool) (room : ℕ)
        → table (λ d c. eqb (state_of d) (state_of c) && test (load_of d) (load_of c)) (λ i e. steps letters states (λ x q. A.step (state_of e) x q) (λ x q. pack q (advance (load_of e) x) x i)) room (map packed first)
        ≡ mapped packed (node_table letters states A advance test room first)
    unfolding covers_by children child
    packed_table test = table_map (record {
      good = fitting;
      keeps = λ d c g h. rw ((reads d g).state_read, (reads c h).state_read, (reads d g).load_read, (reads c h).load_read);
      carries = λ i e h.
          ap₂ (λ (s : ℕ) (c : L). steps letters states (λ x q. A.step s x q) (λ x q. pack q (advance c x) x i)) (reads e h).state_read (reads e h).load_read
          ∙ sym (map_steps packed letters states (λ x q. A.step e.state x q) (child advance i e));
    })

    pub fits_entries : (test : L → L → Bool) (room : ℕ) → Each (Fits letters states Load) (entries (node_table letters states A advance test room first))
    fits_entries test = table_good (covers_by test) fitting
