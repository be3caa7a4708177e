-- Numbers for the states that an automaton reaches. Assumes nothing.
use mathlib.Core.Path.{◌≡◌, refl, sym, ap, ◌∙◌}
use Prim.Native.Nat.{ℕ, ◌<◌}
use Rattle.acceptance.specs.Lasso.{Word, Aut, Reach, here, move}
use Rattle.acceptance.specs.Contexts.{Small}
use Rattle.growth.specs.Numbered.{Numbered}

pub same_state : {a : ℕ} {A : Aut} (by : Numbered a A) {v w : Word} {p q : ℕ} → Reach A A.start v p → Reach A A.start w q → by.place p ≡ by.place q → p ≡ q
same_state by g h e = sym (by.back g) ∙ ap by.name e ∙ by.back h

-- where all states are below n, each is its own number
pub numbered : {n : ℕ} {A : Aut} → Small n A → Numbered n A
numbered {n} {A} small = record { place = λ q. q; name = λ q. q; below = λ h. low small.start_small h; back = λ h. refl }
  where
    low : {p q : ℕ} {w : Word} → p < n → Reach A p w q → q < n
    low l here = l
    low l (move {p = p} {x = x} {q = q} t h) = low (small.step_small p x q t) h
