-- Wrong answers of the crate's functions, which their contracts rule out. Assumes nothing.
use mathlib.Core.Path.{◌≡◌, ap, ◌∙◌}
use mathlib.Core.Bool.{Bool, true}
use mathlib.Core.List.{List, [], ◌∷◌}
use Prim.Native.Nat.{ℕ, suc, ◌+◌, ◌<◌}
use native.Mathlib.Omega.{arith}
use lib.ListN.{length, get_or}
use Rattle.std.specs.Prelude.{Ok}
use Rattle.growth.specs.Grow.{covered, offer}
use Rattle.growth.specs.Lent.{growth_of}
use Rattle.growth.proofs.Offering.{offer_covered}
use Rattle.covering.specs.Entries.{Period}
use Rattle.covering.specs.Chained.{Cleared}
use Rattle.offering.specs.declared.Table.{Table}
use Rattle.offering.specs.Growing.{Grows}

-- a chain left as it was
pub chain_left : {chains : List ℕ} {q i : ℕ} → q < 16 → get_or chains q 0 ≡ suc i → Cleared chains → ⊥
chain_left {q = q} l e c = omega (arith, c.none q l)

-- a covered candidate appended
pub covered_appended : (covers : Period → Period → Bool) (room : ℕ) (es : List Period) (e : Period) {s t : Table}
    → covered covers es e ≡ true → t.n ≡ length es + 1 → Grows (offer covers room es (e ∷ [])) (Ok tt) s t → ⊥
covered_appended covers room es e {s} {t} p more g =
    let same : Ok t.n ≡ Ok (length es) = g.lent.answer ∙ ap growth_of (offer_covered covers room es e p) in
    let z : t.n ≡ length es = cc in
    omega arith
