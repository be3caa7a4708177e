-- What it means that a word has no bad letter. Assumes nothing.
use mathlib.Core.Bool.{Bool, true, false, not, cond}
use mathlib.Core.Path.{◌≡◌, refl, ap, sym}
use Prim.Native.Nat.{ℕ, ◌<◌}
use native.Mathlib.Omega.{arith}
use borrow.Author.Tests.{leb-false, lt-leb, ltb-false, le-ltb}
use lib.Dec.{leb, ltb}
use lib.ListN.{length, get_or}
use Rattle.std.specs.Prelude.{Option, Some, None, Ok, All}
use Rattle.std.specs.List.{position_or_len}
use Rattle.std.proofs.lemmas.List.Sums.{prefix_len_passes, prefix_len_is}
use Rattle.acceptance.specs.Lasso.{Word}
use Rattle.membership.specs.Checks.{bad_letter, checked}
use Rattle.membership.specs.Meaning.{Lettered}

below : (b x : ℕ) → not (leb b x) ≡ true → x < b
below b x e = at (leb b x) refl e
  where
    at : (t : Bool) → leb b x ≡ t → not t ≡ true → x < b
    at true f e = absurd cc
    at false f e = leb-false b x f

none_bad : (w : Word) → bad_letter w ≡ None → All (λ x. x < 16) w
none_bad w e = at (ltb (position_or_len (leb 16) w) (length w)) refl e
  where
    at : (t : Bool) → ltb (position_or_len (leb 16) w) (length w) ≡ t → cond t (Some (position_or_len (leb 16) w)) None ≡ None → All (λ x. x < 16) w
    at true f e = absurd cc
    at false f e = λ k d l. below 16 (get_or w k d) (prefix_len_passes (λ x. not (leb 16 x)) w k d (omega (arith, ltb-false _ _ f)))

all_good : (w : Word) → Lettered w → bad_letter w ≡ None
all_good w a =
    let long : position_or_len (leb 16) w ≡ length w =
    prefix_len_is (λ x. not (leb 16 x)) w (length w) 0 (omega arith) (λ k l. ap not (lt-leb 16 (get_or w k 0) (a.below k l))) (λ l. absurd (omega arith)) in
    rw (le-ltb (position_or_len (leb 16) w) (length w) (omega (arith, long)))

-- ---- a word's check

pub checked_all : (which : ℕ) (w : Word) → Ok tt ≡ checked which w → All (λ x. x < 16) w
unfolding checked
checked_all which w e = at (bad_letter w) refl e
  where
    at : (b : Option ℕ) → bad_letter w ≡ b → Ok tt ≡ checked which w → All (λ x. x < 16) w
    at None f e = none_bad w f
    at (Some place) f e = absurd (let g = rw (f, checked) at e in cc)

pub checked_lettered : (which : ℕ) (w : Word) → checked which w ≡ Ok tt → Lettered w
checked_lettered which w e = record { below = λ i l. checked_all which w (sym e) i 0 l }

pub lettered_checked : (which : ℕ) (w : Word) → Lettered w → checked which w ≡ Ok tt
unfolding checked
lettered_checked which w a = let e = all_good w a in rw (e, checked)
