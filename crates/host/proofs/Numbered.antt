-- The number of the lasso test's answer says what the answer says. Assumes nothing.
use mathlib.Core.List.{List}
use mathlib.Core.Path.{◌≡◌, refl, ap, sym, ◌∙◌}
use Prim.Native.Nat.{ℕ}
use native.Mathlib.Omega.{arith}
use Rattle.acceptance.specs.Lasso.{Word}
use Rattle.std.specs.Prelude.{Bool, true, false, Result, Ok, Err}
use Rattle.records.specs.declared.Refusal.{Refusal}
use Rattle.membership.specs.Test.{host_number}
use Rattle.membership.specs.Meaning.{TestRight}
use Rattle.host.specs.Lasso.{LassoRight}

one_accepted : (t : Result Bool Refusal) → host_number t ≡ 1 → t ≡ Ok true
one_accepted (Ok true) e = refl
one_accepted (Ok false) e = absurd (omega arith)
one_accepted (Err r) e = absurd (omega arith)

zero_rejected : (t : Result Bool Refusal) → host_number t ≡ 0 → t ≡ Ok false
zero_rejected (Ok true) e = absurd (omega arith)
zero_rejected (Ok false) e = refl
zero_rejected (Err r) e = absurd (omega arith)

pub lasso_right : {records : List ℕ} {u v : Word} {t : Result Bool Refusal} {r : ℕ} → TestRight records u v t → r ≡ host_number t → LassoRight records u v r
lasso_right {t = t} right e = record {
  answer = e ∙ ap host_number right.answer;
  accepted = (λ f. right.accepted.0 (one_accepted t (sym e ∙ f)), λ a. e ∙ ap host_number (right.accepted.1 a));
  rejected = (λ f. right.rejected.0 (zero_rejected t (sym e ∙ f)), λ a. e ∙ ap host_number (right.rejected.1 a));
}
