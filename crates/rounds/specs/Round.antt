-- What a round is given, and what its tests come to. Assumes nothing.
use Rattle.std.specs.Prelude.{◌≡◌, List, ℕ, ◌+◌, ◌*◌, ◌^◌, max, ◌≤◌, Result, Ok, Err, length}
use Rattle.lassos.specs.declared.Rejected.{Rejected}
use Rattle.rounds.specs.declared.Tally.{Tally}
use Rattle.rounds.specs.declared.Lent.{Lent}
use Rattle.rounds.specs.declared.Stop.{Stop}
use Rattle.rounds.specs.declared.Stop.TheVariants.{Found}

-- what the tests of a table of n entries come to
abbrev pub answered : ℕ → ℕ → Result ℕ Rejected → Result Tally Stop
answered n p (Ok t) = Ok (record { p = max p n; t = t })
answered n p (Err r) = Err (Found (record { p = max p n; t = r.tests }) (record { stem = r.stem; period = r.period; size = n }))

-- what a round is given: room, and few tests so far
pub record Ready (room tests : ℕ) (u : List ℕ) (lent : Lent) : Type 0 where
  pub stems : length u ≤ 4096
  pub short : room ≤ 65535
  pub links_fit : room ≤ length lent.links.now
  pub contexts_fit : 2 * room ≤ length lent.contexts.now
  pub scratch_fits : 2 * (16 + room) ≤ length lent.scratch.now
  pub scratch_short : length lent.scratch.now ≤ 131102
  pub few : tests ≤ 2 ^ 50

-- the same tables are still lent, each as long as it was
pub record StillLent (old new : Lent) : Type 0 where
  pub links : new.links.ghost_name ≡ old.links.ghost_name
  pub contexts : new.contexts.ghost_name ≡ old.contexts.ghost_name
  pub scratch : new.scratch.ghost_name ≡ old.scratch.ghost_name
  pub links_long : length new.links.now ≡ length old.links.now
  pub contexts_long : length new.contexts.now ≡ length old.contexts.now
  pub scratch_long : length new.scratch.now ≡ length old.scratch.now
