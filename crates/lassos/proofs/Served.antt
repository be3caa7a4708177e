-- The sets that are put serve the tests: they are those of the periods that are tested. Assumes nothing.
use mathlib.Core.Path.{◌≡◌, ap}
use mathlib.Core.List.{List, Memᴰ}
use Prim.Native.Nat.{ℕ}
use lib.Dec.{eqb}
use lib.ListN.{length, get_or}
use Rattle.bits.specs.Sets.{meets}
use Rattle.bits.specs.Fields.{stem_target, link_state}
use Rattle.bits.proofs.Truth.{and_right}
use Rattle.growth.proofs.Steps.{steps_mem}
use Rattle.walk.specs.Walk.{search, fits, pairs_of, accepts}
use Rattle.lassos.specs.Pairs.{meeting, Accepting}
use Rattle.lassos.proofs.Pairs.{search_same}

-- the sets that are put are those of the periods that are tested
pub sets_serve : (u : List ℕ) (s rows : ℕ) (links : List ℕ) {contexts sets : List ℕ} (t : ℕ) → Accepting s links contexts sets
    → search (meeting u sets) (pairs_of u s rows links) t ≡ search (accepts u contexts) (pairs_of u s rows links) t
unfolding meeting accepts pairs_of
sets_serve u s rows links {contexts} {sets} t known = search_same (meeting u sets) (accepts u contexts) (pairs_of u s rows links) t same
  where
    same : (c : ℕ × ℕ) → Memᴰ c (pairs_of u s rows links) → meeting u sets c.0 c.1 ≡ accepts u contexts c.0 c.1
    same c m =
        let (i, j, _, l, b, e) = steps_mem {E = ℕ × ℕ} (length u) (length links) _ (λ i j. (i, j)) m in
        rw e (ap (λ (x : ℕ). meets 8 (stem_target (get_or u i 0)) x) (known.set_at j l (and_right (fits s rows (get_or u i 0)) (eqb (link_state (get_or links j 0)) s) b)))
