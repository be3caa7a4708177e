-- Parts of an output that are lent: the last free place of a prefix, and the prefix when it is full. Assumes nothing.
use mathlib.Core.Path.{◌≡◌, ap, ◌∙◌}
use mathlib.Core.List.{List, ◌∷◌, ◌++◌}
use Prim.Native.Nat.{ℕ, ◌+◌, ◌-◌, ◌<◌, ◌≤◌}
use native.Mathlib.Omega.{arith}
use lib.ListN.{length, set, drop}
use borrow.Rule.Slice.PartMut.{mid_of, put_mid, set_mid_at, Post-is, mid_len}
use Rattle.std.proofs.lemmas.List.{drop-set}
use Rattle.growth.specs.Lent.{over}

-- the last free place, as a part of one element
pub last_low : (free : ℕ) → 1 ≤ free → free - 1 < free
last_low free l = omega arith

pub last_part : (xs : List ℕ) (free : ℕ) → 1 ≤ free → free ≤ length xs → 1 ≤ length (mid_of (free - 1) (free - (free - 1)) xs)
last_part xs free l h = omega (arith, mid_len (free - 1) free xs h)

-- the last free place is written through a part of one element
pub put_back : (xs : List ℕ) (free x : ℕ) → 0 < free → free ≤ length xs
    → drop (free - 1) (put_mid (free - 1) (free - (free - 1)) xs (set (mid_of (free - 1) (free - (free - 1)) xs) (length (mid_of (free - 1) (free - (free - 1)) xs) - 1) x)) ≡ x ∷ drop free xs
put_back xs free x p h =
    let a = free - 1 in
    let one : length (mid_of a (free - a) xs) ≡ 1 = mid_len a free xs h ∙ omega arith in
    let at : a + (length (mid_of a (free - a) xs) - 1) ≡ a = omega arith in
    let next : a + 1 ≡ free = omega arith in
    ap (drop a) (set_mid_at a (free - a) (length (mid_of a (free - a) xs) - 1) xs x (omega arith))
    ∙ ap (λ (k : ℕ). drop a (set xs k x)) at ∙ drop-set xs a x (omega arith) ∙ ap (λ (k : ℕ). x ∷ drop k xs) next

-- what was lent as the first elements, and filled with w
pub put_front : {X : Type 0} (n : ℕ) (xs w : List X) → n ≡ length w → put_mid 0 (n - 0) xs w ≡ over w xs
unfolding over
put_front n xs w e = ap (λ (z : List _). w ++ z) (Post-is 0 n xs (omega arith)) ∙ ap (λ (k : ℕ). w ++ drop k xs) e
