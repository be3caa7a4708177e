-- Covering by masks: what an entry must not have, found once for a candidate. Assumes nothing.
use Rattle.std.specs.Prelude.{Bool, ◌&&◌, List, ℕ, ◌-◌, ◌^◌, eqb, ltb, leb, get_or}
use Rattle.std.specs.Int.Bits.{bit_and}
use Rattle.bits.specs.Fields.{link_state}
use Rattle.acceptance.specs.Contexts.{Context}
use Rattle.covering.specs.Entries.{Period, context_in}

-- what c lacks of the pairs `rows`
unfoldable pub lacking : ℕ → Context → Context
lacking rows c = record { reach = bit_and rows (2 ^ 64 - 1 - c.reach); through = bit_and rows (2 ^ 64 - 1 - c.through) }

-- what c has of them
unfoldable pub having : ℕ → Context → Context
having rows c = record { reach = bit_and rows c.reach; through = bit_and rows c.through }

-- c has nothing of d, in both numbers
unfoldable pub apart : Context → Context → Bool
apart c d = eqb (bit_and c.reach d.reach) 0 && eqb (bit_and c.through d.through) 0

-- c has all of d, in both numbers
unfoldable pub holds : Context → Context → Bool
holds c d = eqb (bit_and d.reach (2 ^ 64 - 1 - c.reach)) 0 && eqb (bit_and d.through (2 ^ 64 - 1 - c.through)) 0

-- an entry covers a candidate at the same state of A if it has nothing that the candidate lacks of the rows
unfoldable pub covers : ℕ → Period → Period → Bool
covers rows old new = eqb (link_state old.link) (link_state new.link) && apart old.context (lacking rows new.context)

-- an entry, by one more than its index, is one of the first n, at q, and has nothing of `lacks`
unfoldable pub guessed : ℕ → List ℕ → List ℕ → (next q : ℕ) → Context → Bool
guessed n links contexts next q lacks =
    (ltb 0 next && leb next n) && (eqb (link_state (get_or links (next - 1) 0)) q && apart (context_in contexts (next - 1)) lacks)
