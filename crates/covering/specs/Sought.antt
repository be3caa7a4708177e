-- What a scan along the chain of a state is for: a candidate, and entries whose chains these are. Assumes nothing.
use Rattle.std.specs.Prelude.{◌≡◌, Bool, not, List, [], ℕ, ◌+◌, ◌*◌, ◌^◌, ◌≤◌, ◌<◌, length}
use Rattle.bits.specs.Fields.{link_state}
use Rattle.acceptance.specs.Contexts.{Context}
use Rattle.growth.specs.Grow.{covered}
use Rattle.growth.specs.Steps.{only}
use Rattle.covering.specs.Entries.{Period, held}
use Rattle.covering.specs.Masks.{lacking, having, covers}
use Rattle.covering.specs.Chained.{Chained}

-- a candidate at q that lacks and has this of the rows, and n entries with these contexts, whose chains these are
pub record Sought (contexts chains : List ℕ) (q : ℕ) (lacks has : Context) : Type 0 where
  pub rows : ℕ
  pub n : ℕ
  pub links : List ℕ
  pub candidate : Period
  pub contexts_fit : 2 * n ≤ length contexts
  pub chains_fit : 16 + n ≤ length chains
  pub few : n ≤ 65535
  pub chained : Chained (covers rows) (held n links contexts) [] chains
  pub at : q ≡ link_state candidate.link
  pub lacks_is : lacks ≡ lacking rows candidate.context
  pub has_is : has ≡ having rows candidate.context
  pub reach_lt : candidate.context.reach < 2 ^ 64
  pub through_lt : candidate.context.through < 2 ^ 64

-- the answer b for it, and the chains that the scan leaves: where it is not covered, what it covers may be gone from them
pub record Told {contexts chains : List ℕ} {q : ℕ} {lacks has : Context} (s : Sought contexts chains q lacks has) (b : Bool) (left : List ℕ) : Type 0 where
  pub value : b ≡ covered (covers s.rows) (held s.n s.links contexts) s.candidate
  pub chained_after : Chained (covers s.rows) (held s.n s.links contexts) (only (not b) s.candidate) left
