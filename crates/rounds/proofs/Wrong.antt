-- Wrong answers of the rounds, which their contract rules out. Assumes nothing.
use mathlib.Core.Path.{◌≡◌, refl, sym, ap, ◌∙◌}
use mathlib.Core.List.{List}
use Prim.Native.Nat.{ℕ}
use native.Mathlib.Omega.{arith}
use Rattle.std.specs.Prelude.{Ok, Err}
use Rattle.acceptance.specs.Lasso.{Aut, Word}
use Rattle.rounds.specs.declared.Tally.{Tally}
use Rattle.rounds.specs.declared.Stop.TheVariants.{Found}
use Rattle.walk.specs.Walk.{included, shown, Finish, run}
use Rattle.rounds.specs.Finished.{Finished}

module _ {A B : Aut} {u links : List ℕ} {room : ℕ} {cs : List (ℕ × ℕ)} {p₀ t₀ : ℕ} {c : Tally} where
  -- that no lasso was rejected, where one was
  pub rejected_passed_over : {x y : Word} → (run A B u room cs p₀ t₀).verdict ≡ shown x y → Finished A B u room cs p₀ t₀ (Ok c) links → ⊥
  rejected_passed_over {x = x} {y = y} e h =
      let same : included ≡ shown x y = sym (ap (λ (f : Finish). f.verdict) h.finish) ∙ e in
      absurd cc

  -- a period beyond the table
  pub period_beyond : {i n : ℕ} → Finished A B u room cs p₀ t₀ (Err (Found c (record { stem = i; period = n; size = n }))) links → ⊥
  period_beyond h = let (_, low, _, _) = h.legible.lasso _ _ refl in omega (arith, low)
