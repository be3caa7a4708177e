-- Wrong answers that the contract of the lasso test rules out, on an input each. Assumes nothing.
use mathlib.Core.List.{[], ◌∷◌}
use mathlib.Core.Path.{◌∙◌}
use contract.Lifetimes.{Lfts}
use Rattle.std.specs.Prelude.{true, false, Ok}
use Rattle.bits.proofs.Refuses.{Refuses, lent}
use Rattle.membership.proofs.Samples.{m8, m9, samples}
use Rattle.membership.proofs.test.Reads as test

module _ (κs : Lfts 3) where
  -- the verdicts swapped: M8 rejected, M9 accepted
  pub accepted_rejected : Refuses test.Post {k = κs} (lent m8, (lent [], (lent (0 ∷ []), _))) (Ok false)
  accepted_rejected x p = let e = p.answer ∙ samples.0 in cc

  pub rejected_accepted : Refuses test.Post {k = κs} (lent m9, (lent [], (lent (0 ∷ []), _))) (Ok true)
  rejected_accepted x p = let e = p.answer ∙ samples.1 in cc
