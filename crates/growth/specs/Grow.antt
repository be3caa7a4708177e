-- A table that grows by its own entries, in order of appending (document 01, "The walk"), stated once for every table. Assumes nothing.
--     next i e        the candidates of the entry e at index i, in the order in which they are taken
--     covers t c      the entry t covers the candidate c
-- The entries are taken in order; a covered candidate is dropped, any other appended. The growth stops where a candidate must be appended
-- and the table has `room` entries.
use Rattle.std.specs.Prelude.{◌≡◌, Bool, true, false, ◌||◌, List, [], ◌∷◌, ◌++◌, ℕ, zero, suc, length, ltb}
use Rattle.std.proofs.Math.Option.{none, some}
use Rattle.std.proofs.Math.ListN.{get_elem?}

-- a table that is complete, or one that lacks room
pub data Outcome (E : Type 0) : Type 0 where
  ended : List E → Outcome E
  full : List E → Outcome E

module _ {E : Type 0} where
  -- goes on with a table that does not lack room
  abbrev pub onward : Outcome E → (List E → Outcome E) → Outcome E
  onward (ended t) k = k t
  onward (full t) k = full t

  -- the entries that are there
  abbrev pub entries : Outcome E → List E
  entries (ended t) = t
  entries (full t) = t

  -- it did not lack room
  abbrev pub Complete : Outcome E → Type 0
  Complete o = o ≡ ended (entries o)

  -- the table longer by c, where there is room
  unfoldable pub append : ℕ → List E → E → Outcome E
  append room t c = elim (ltb (length t) room) [ true ↦ ended (t ++ (c ∷ [])) | false ↦ full t ]

module _ {E : Type 0} (covers : E → E → Bool) where
  -- some entry covers the candidate
  abbrev pub covered : List E → E → Bool
  covered [] c = false
  covered (t ∷ ts) c = covers t c || covered ts c

  module _ (room : ℕ) where
    -- candidates are offered to the table t one by one
    unfoldable pub offer : List E → List E → Outcome E
    offer t [] = ended t
    offer t (c ∷ cs) = elim (covered t c) [ true ↦ offer t cs | false ↦ onward (append room t c) (λ s. offer s cs) ]

  module _ (next : ℕ → E → List E) (room : ℕ) where
    -- takes the entries from index i on; the first number bounds how many
    unfoldable pub grow : ℕ → ℕ → List E → Outcome E
    grow zero i t = ended t
    grow (suc f) i t = elim (get_elem? t i) [ none ↦ ended t | some e ↦ onward (offer room t (next i e)) (grow f (suc i)) ]

    -- the table that grows from the first candidates; it never takes more entries than there is room for
    unfoldable pub table : List E → Outcome E
    table first = onward (offer room [] first) (grow room 0)
