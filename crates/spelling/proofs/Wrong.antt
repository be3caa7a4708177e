-- A wrong output, which the contract of a word that is written out rules out. Assumes nothing.
use mathlib.Core.Path.{◌≡◌}
use mathlib.Core.List.{List, ◌∷◌, []}
use Prim.Native.Nat.{ℕ}
use Rattle.growth.specs.Lent.{over}
use Rattle.spelling.specs.Written.{Written}

-- the byte beyond a word of one letter is changed
pub byte_beyond : {r : ℕ} → Written (3 ∷ []) r (0 ∷ 7 ∷ []) (3 ∷ 8 ∷ []) → ⊥
unfolding over
byte_beyond h =
    let same : ◌≡◌ {A = List ℕ} (3 ∷ 8 ∷ []) (3 ∷ 7 ∷ []) = h.bytes in
    cc
