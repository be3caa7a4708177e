-- The contexts that grow letter by letter describe their words, and compare as the words do on the rows of a set. Assumes nothing.
use mathlib.Core.Path.{◌≡◌}
use mathlib.Core.Bool.{true}
use mathlib.Core.List.{[], ◌∷◌, ◌++◌}
use Prim.Native.Nat.{ℕ, ◌*◌, ◌^◌, ◌<◌}
use lib.Pow.{pow-lt}
use Rattle.bits.specs.Bits.{weight}
use Rattle.bits.specs.Sets.{SetIs}
use Rattle.bits.specs.Pairs.{row, contained_on}
use Rattle.bits.proofs.Sets.{set_is_subset, set_is_within}
use Rattle.bits.proofs.Operations.{weighed_lt}
use Rattle.bits.proofs.Pairs.{pairs_lt, row_pairs}
use Rattle.bits.proofs.Contained.{contained_on_intro, contained_on_elim}
use Rattle.acceptance.specs.Lasso.{Word, Aut}
use Rattle.acceptance.specs.Contexts.{Small, Context, idle, moved_by, through_by, longer, Describes}
use Rattle.acceptance.proofs.Preserve.{Within}
use Rattle.acceptance.proofs.Targets.{single_is, moved_is, moved_by_lt}
use Rattle.acceptance.proofs.Passes.{single_through, through_is, through_by_lt}

-- both numbers are sets of pairs of states below n
pub record Fits (n : ℕ) (c : Context) : Type 0 where
  pub reach_lt : c.reach < 2 ^ (n * n)
  pub through_lt : c.through < 2 ^ (n * n)

pub describes_nil : (n : ℕ) (B : Aut) → Describes n B (idle n B.final) []
unfolding idle
describes_nil n B = record {
  reaches = λ q l. rw (row_pairs n (λ q. 2 ^ q) q (λ q. pow-lt) l) (single_is l);
  passes = λ q l. rw (row_pairs n (λ q. weight (B.final q) * 2 ^ q) q (λ q l. weighed_lt (B.final q) (pow-lt l)) l) (single_through l);
}

module _ (n : ℕ) (B : Aut) (c : Context) (x : ℕ) where
  reach_row : ℕ → ℕ
  reach_row q = moved_by n B (row n c.reach q) x

  through_row : ℕ → ℕ
  through_row q = through_by n B (row n c.reach q) (row n c.through q) x

  pub longer_fits : Fits n (longer n B c x)
  unfolding longer reach_row through_row
  longer_fits = record {
    reach_lt = pairs_lt n reach_row (λ q l. moved_by_lt n B (row n c.reach q) x);
    through_lt = pairs_lt n through_row (λ q l. through_by_lt n B (row n c.reach q) (row n c.through q) x);
  }

  -- the rows of the longer context
  pub longer_reach : (q : ℕ) → q < n → row n (longer n B c x).reach q ≡ moved_by n B (row n c.reach q) x
  unfolding longer reach_row
  longer_reach q l = row_pairs n reach_row q (λ q l. moved_by_lt n B (row n c.reach q) x) l

  pub longer_through : (q : ℕ) → q < n → row n (longer n B c x).through q ≡ through_by n B (row n c.reach q) (row n c.through q) x
  unfolding longer through_row
  longer_through q l = row_pairs n through_row q (λ q l. through_by_lt n B (row n c.reach q) (row n c.through q) x) l

pub describes_snoc : {n : ℕ} {B : Aut} → Small n B → {c : Context} {w : Word} (x : ℕ) → Describes n B c w → Describes n B (longer n B c x) (w ++ (x ∷ []))
describes_snoc {n} {B} small {c} x d = record {
  reaches = λ q l. rw (longer_reach n B c x q l) (moved_is small x (d.reaches q l));
  passes = λ q l. rw (longer_through n B c x q l) (through_is small x (d.reaches q l) (d.passes q l));
}

-- ---- contained on the rows of s is within there

module _ {n s : ℕ} {B : Aut} {Rows : ℕ → Type 0} (rows : SetIs n s Rows) {c d : Context} {v v' : Word} (says : Describes n B c v) (says' : Describes n B d v') where
  pub contained_within : contained_on n s c.reach d.reach ≡ true → contained_on n s c.through d.through ≡ true → Within B Rows v v'
  contained_within e f = record {
    reach = λ {p} {q} g. let (l, h) = rows.has p g in
        set_is_within n (says.reaches p l) (says'.reaches p l) (contained_on_elim n s c.reach d.reach p e l h) q;
    through = λ {p} {q} g. let (l, h) = rows.has p g in
        set_is_within n (says.passes p l) (says'.passes p l) (contained_on_elim n s c.through d.through p f l h) q;
  }

  pub within_contained : Within B Rows v v' → (contained_on n s c.reach d.reach ≡ true) × (contained_on n s c.through d.through ≡ true)
  within_contained f = (
    contained_on_intro n s c.reach d.reach (λ p l h. set_is_subset n (says.reaches p l) (says'.reaches p l) (λ q. f.reach (rows.only p l h))),
    contained_on_intro n s c.through d.through (λ p l h. set_is_subset n (says.passes p l) (says'.passes p l) (λ q. f.through (rows.only p l h))),
  )
