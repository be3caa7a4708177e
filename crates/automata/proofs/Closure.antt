-- The closure relates what pairs lead to, none or more: its stages are Warshall's. Assumes nothing.
use mathlib.Core.Bool.{Bool, true, ◌&&◌, ◌||◌}
use mathlib.Core.Logic.{◌↔◌}
use mathlib.Core.Path.{◌≡◌, sym, ap, ◌∙◌}
use Prim.Native.Nat.{ℕ, suc, ◌+◌, ◌*◌, ◌^◌, ◌<◌}
use native.Mathlib.Numerals.{add-one}
use lib.Dec.{eqb}
use Rattle.bits.specs.Bits.{bit, weight}
use Rattle.bits.specs.Sets.{union}
use Rattle.bits.specs.Pairs.{pair, row, pairs}
use Rattle.bits.proofs.Bits.{bit_set_of, set_of_lt}
use Rattle.bits.proofs.Operations.{bit_power, bit_weighed}
use Rattle.bits.proofs.Pairs.{bit_row, row_pairs}
use Rattle.acceptance.proofs.Membership.{by_row}
use Rattle.acceptance.proofs.Warshall.{Reaches, reaches_stage, stage_reaches}
use Rattle.automata.specs.Repeated.{led_on, via, paths_over, closure}

-- ---- the loop over the states on the way

pub paths_more : (n r k : ℕ) → paths_over n r (k + 1) ≡ via n (paths_over n r k) k
unfolding paths_over
paths_more n r k = rw add-one

pub paths_all : (n r k : ℕ) → k ≡ n → paths_over n r k ≡ closure n r
unfolding closure
paths_all n r k e = ap (paths_over n r) e

-- ---- what its stages reach

module _ (n : ℕ) where
  bit_union : (x y q : ℕ) → q < n → bit (union n x y) q ≡ (bit x q || bit y q)
  unfolding union
  bit_union x y q h = bit_set_of (λ q. bit x q || bit y q) n q h

  -- rows that are unions
  row_unions : (f g : ℕ → ℕ) (q q' : ℕ) → q < n → q' < n → bit (row n (pairs n (λ q. union n (f q) (g q))) q) q' ≡ (bit (f q) q' || bit (g q) q')
  unfolding union
  row_unions f g q q' h h' =
      ap (λ (x : ℕ). bit x q') (row_pairs n (λ q. union n (f q) (g q)) q (λ p l. set_of_lt (λ i. bit (f p) i || bit (g p) i) n) h)
      ∙ bit_union (f q) (g q) q' h'

  module _ (r : ℕ) where
    stage : ℕ → ℕ → ℕ → Bool
    stage k = by_row (row n (paths_over n r k))

    start : (q q' : ℕ) → q < n → q' < n → stage 0 q q' ≡ (by_row (row n r) q q' || eqb q q')
    unfolding stage paths_over
    start q q' h h' = row_unions (row n r) (λ q. 2 ^ q) q q' h h' ∙ ap (λ (b : Bool). bit (row n r q) q' || b) (bit_power q q')

    next : (k q q' : ℕ) → k < n → q < n → q' < n → stage (suc k) q q' ≡ (stage k q q' || stage k q k && stage k k q')
    unfolding stage paths_over via led_on
    next k q q' l h h' =
        row_unions (row n s) (λ q. weight (pair n s q k) * row n s k) q q' h h'
        ∙ ap (λ (b : Bool). bit (row n s q) q' || b)
        (bit_weighed (pair n s q k) (row n s k) q' ∙ ap (λ (b : Bool). b && bit (row n s k) q') (sym (bit_row n s q k l)))
      where
        s : ℕ
        s = paths_over n r k

    pub closure_reaches : (q q' : ℕ) → q < n → q' < n → (pair n (closure n r) q q' ≡ true) ↔ Reaches n (by_row (row n r)) q q'
    unfolding closure stage
    closure_reaches q q' h h' = (
      λ e. stage_reaches n (by_row (row n r)) stage start next q q' h h' (bit_row n (paths_over n r n) q q' h' ∙ e),
      λ path. sym (bit_row n (paths_over n r n) q q' h') ∙ reaches_stage n (by_row (row n r)) stage start next path h h',
    )
