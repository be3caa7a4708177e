-- The search of one round over what the code has: the stems, the links, and for each link at s the set from which its period is accepted.
-- Assumes nothing.
use Rattle.std.specs.Prelude.{◌≡◌, Bool, true, List, ℕ, ◌^◌, ◌≤◌, ◌<◌, Result, Ok, Err, eqb, length, get_or}
use Rattle.bits.specs.Sets.{meets}
use Rattle.bits.specs.Fields.{stem_target, link_state}
use Rattle.automata.specs.Repeated.{repeated}
use Rattle.covering.specs.Entries.{context_in}
use Rattle.lassos.specs.declared.Rejected.{Rejected}
use Rattle.walk.specs.Walk.{Search, passed, rejected}

-- the tests made where all lassos passed, or the first rejected one
abbrev pub found_of : Search → Result ℕ Rejected
found_of (passed t) = Ok t
found_of (rejected t i j) = Err (record { tests = t; stem = i; period = j })

-- one test: does the stem's target meet the set of the period?
unfoldable pub meeting : List ℕ → List ℕ → ℕ → ℕ → Bool
meeting u sets i j = meets 8 (stem_target (get_or u i 0)) (get_or sets j 0)

-- the sets of the periods at s
pub record Accepting (s : ℕ) (links contexts sets : List ℕ) : Type 0 where
  pub set_at : (j : ℕ) → j < length links → eqb (link_state (get_or links j 0)) s ≡ true → get_or sets j 0 ≡ repeated 8 (context_in contexts j)

-- as many stems and periods as the tables hold at most, and so few tests before that the count fits
pub record Few (u links sets : List ℕ) (before : ℕ) : Type 0 where
  pub stems : length u ≤ 4096
  pub periods : length links ≤ 65535
  pub sets_fit : length links ≤ length sets
  pub tests : before ≤ 2 ^ 50
