-- Entries of a period table, and what the two lent tables hold of them: the links, and for each entry the two numbers of its context, at 2i and 2i + 1
-- (document 01, "Room"). Assumes nothing.
use Rattle.std.specs.Prelude.{Bool, ◌&&◌, List, [], ◌∷◌, map, ℕ, ◌+◌, ◌*◌, eqb, get_or}
use Rattle.bits.specs.Bits.{values}
use Rattle.bits.specs.Fields.{link_state}
use Rattle.acceptance.specs.Contexts.{Context}
use Rattle.growth.specs.Tables.{contained}

-- an entry: its link, and its context of two numbers
pub record Period : Type 0 where
  pub link : ℕ
  pub context : Context

-- an entry covers a candidate at the same state of A if its context, on the rows, is contained in the candidate's in both numbers
unfoldable pub period_covers : ℕ → Period → Period → Bool
period_covers rows old new = eqb (link_state old.link) (link_state new.link) && contained 8 rows old.context new.context

abbrev pub links_of : List Period → List ℕ
links_of es = map (λ (e : Period). e.link) es

unfoldable pub contexts_of : List Period → List ℕ
contexts_of [] = []
contexts_of (e ∷ es) = e.context.reach ∷ e.context.through ∷ contexts_of es

-- the context at i, and the entry at i, of tables that hold entries
abbrev pub context_in : List ℕ → ℕ → Context
context_in contexts i = record { reach = get_or contexts (2 * i) 0; through = get_or contexts (2 * i + 1) 0 }

abbrev pub entry_in : List ℕ → List ℕ → ℕ → Period
entry_in links contexts i = record { link = get_or links i 0; context = context_in contexts i }

-- their first n entries
unfoldable pub held : ℕ → List ℕ → List ℕ → List Period
held n links contexts = values (entry_in links contexts) n
