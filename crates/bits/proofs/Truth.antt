-- Truth values, std's laws of them among these, and results that one equation allows. Assumes nothing.
use mathlib.Core.Bool.{Bool, true, false, not, ◌&&◌, ◌||◌, false≢true}
use mathlib.Core.Path.{◌≡◌, refl, sym, ◌∙◌}
pub use Rattle.std.proofs.lemmas.Bool.{or_left, or_right, or_cases, and_from as and_both, false_from_ne_true as false_from}

-- two results that a contract by equation allows coincide
pub coincide : {A : Type 0} {x y d : A} → x ≡ d → y ≡ d → x ≡ y
coincide p q = p ∙ sym q

-- two truth values are equal where each gives the other
pub bool_same : (a b : Bool) → (a ≡ true → b ≡ true) → (b ≡ true → a ≡ true) → a ≡ b
bool_same true b f g = sym (f refl)
bool_same false true f g = g refl
bool_same false false f g = refl

pub and_left : (a b : Bool) → (a && b) ≡ true → a ≡ true
and_left true b e = refl
and_left false b e = e

pub and_right : (a b : Bool) → (a && b) ≡ true → b ≡ true
and_right true b e = e
and_right false b e = absurd (false≢true e)

-- `not a || b` says that a gives b
pub implies : (a b : Bool) → (not a || b) ≡ true → a ≡ true → b ≡ true
implies true b e p = e
implies false b e p = absurd (false≢true p)

pub implied : (a b : Bool) → (a ≡ true → b ≡ true) → (not a || b) ≡ true
implied true b f = f refl
implied false b f = refl

pub not_or : (a b : Bool) → not (a || b) ≡ (not a && not b)
not_or true b = refl
not_or false b = refl
