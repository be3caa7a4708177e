-- Wrong answers that the contracts rule out, on an input each. Assumes nothing.
use mathlib.Core.List.{List, [], ◌∷◌}
use mathlib.Core.Path.{ap, ◌∙◌}
use Prim.Native.Nat.{ℕ}
use native.Mathlib.Omega.{arith}
use contract.Lifetimes.{Lfts}
use lib.ListN.{get_or}
use Rattle.bits.proofs.Refuses.{Refuses, lent}
use Rattle.membership.specs.Test.{host_number}
use Rattle.membership.proofs.Samples.{m8, m9, samples, refusals}
use Rattle.search.specs.Ending.{Buffers}
use Rattle.host.specs.Decide.{row_left, RowDecided}
use Rattle.host.proofs.wickerbell_lasso.Reads as lasso

-- ---- the lasso test

module _ (κs : Lfts 3) where
  -- 1 where M9 is rejected, 0 where M8 is accepted
  pub one_for_rejected : Refuses lasso.Post {k = κs} (lent m9, (lent [], (lent (0 ∷ []), _))) 1
  one_for_rejected x p = omega (arith, p.answer ∙ ap host_number samples.1)

  pub zero_for_accepted : Refuses lasso.Post {k = κs} (lent m8, (lent [], (lent (0 ∷ []), _))) 0
  zero_for_accepted x p = omega (arith, p.answer ∙ ap host_number samples.0)

  -- a refusal without its hundred
  pub bare_refusal : Refuses lasso.Post {k = κs} (lent m8, (lent (16 ∷ []), (lent [], _))) 10
  bare_refusal x p = omega (arith, p.answer ∙ ap host_number refusals.0)

-- ---- the entry point

-- a row that is too short, of one number, is written to
pub short_row_written : {model rule : List ℕ} {S P number : ℕ} {old new : Buffers} → RowDecided model rule S P old (1 ∷ []) number new (0 ∷ []) → ⊥
unfolding row_left
short_row_written d = omega (arith, ap (λ (row : List ℕ). get_or row 0 0) d.row_told)
