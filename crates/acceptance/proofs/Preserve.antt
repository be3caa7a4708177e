-- The orders on stems and periods that an automaton B gives (the paper's definition 4), and that they keep acceptance (proposition 7).
-- Assumes nothing.
use mathlib.Core.List.{◌++◌}
use Prim.Native.Nat.{ℕ, zero, suc}
use Rattle.acceptance.specs.Lasso.{Word, power, Aut, Reach, here, Through, Accepted}
use Rattle.acceptance.proofs.Paths.{forget, reach_append, reach_split, Seam, in_first, in_second, through_split, through_left, through_right}

-- u ≲ w: every state that u reaches, w reaches
pub record Below (B : Aut) (u w : Word) : Type 0 where
  pub reach : {q : ℕ} → Reach B B.start u q → Reach B B.start w q

-- v is within v' on some rows: from a state there, v' leads wherever v leads, through acceptance where v does.
-- The paper's v ≲_w v' is this on the states that w reaches.
pub record Within (B : Aut) (Rows : ℕ → Type 0) (v v' : Word) : Type 0 where
  pub reach : {p q : ℕ} → Rows p → Reach B p v q → Reach B p v' q
  pub through : {p q : ℕ} → Rows p → Through B p v q → Through B p v' q

-- no v leads out of Rows
pub record Kept (B : Aut) (Rows : ℕ → Type 0) (v : Word) : Type 0 where
  pub inside : {p q : ℕ} → Rows p → Reach B p v q → Rows q

module _ {B : Aut} where
  pub below_trans : {u v w : Word} → Below B u v → Below B v w → Below B u w
  below_trans f g = record { reach = λ h. g.reach (f.reach h) }

  pub below_append : {u w : Word} (x : Word) → Below B u w → Below B (u ++ x) (w ++ x)
  below_append {u} x f = record { reach = λ h. let (m, g, k) = reach_split u h in reach_append (f.reach g) k }

  pub within_trans : {Rows : ℕ → Type 0} {a b c : Word} → Within B Rows a b → Within B Rows b c → Within B Rows a c
  within_trans f k = record { reach = λ g h. k.reach g (f.reach g h); through = λ g t. k.through g (f.through g t) }

  through_join : {Rows : ℕ → Type 0} {p r : ℕ} {v v' x : Word} → Within B Rows v v' → Rows p → Seam B p v x r → Through B p (v' ++ x) r
  through_join f g (in_first t h) = through_left (f.through g t) h
  through_join f g (in_second h t) = through_right (f.reach g h) t

  pub within_append : {Rows : ℕ → Type 0} {v v' : Word} (x : Word) → Within B Rows v v' → Within B Rows (v ++ x) (v' ++ x)
  within_append {v = v} x f = record {
    reach = λ g h. let (m, k, l) = reach_split v h in reach_append (f.reach g k) l;
    through = λ g t. through_join f g (through_split v t);
  }

  -- the paper's FORQ constraint: what is within on some rows is so on fewer
  pub within_fewer : {Rows Fewer : ℕ → Type 0} {v v' : Word} → ((p : ℕ) → Fewer p → Rows p) → Within B Rows v v' → Within B Fewer v v'
  within_fewer f g = record { reach = λ {p} h. g.reach (f p h); through = λ {p} h. g.through (f p h) }

  -- v₀ is within v on rows that no v leaves
  module _ {Rows : ℕ → Type 0} {v v₀ : Word} (inside : Within B Rows v₀ v) (kept : Kept B Rows v) where
    stays : (n : ℕ) {p q : ℕ} → Rows p → Reach B p (power v n) q → Rows q
    stays zero g here = g
    stays (suc n) g h = let (m, k, l) = reach_split v h in stays n (kept.inside g k) l

    carry : (n : ℕ) {p q : ℕ} → Rows p → Reach B p (power v₀ n) q → Reach B p (power v n) q
    carry zero g h = h
    carry (suc n) g h =
        let (m, k, l) = reach_split v₀ h in
        let k' = inside.reach g k in
        reach_append k' (carry n (kept.inside g k') l)

    carry_through : (n : ℕ) {p q : ℕ} → Rows p → Through B p (power v₀ n) q → Through B p (power v n) q
    carry_through zero g t = t
    carry_through (suc n) {p} {q} g t = at (through_split v₀ t) (λ m. carry_through n {p = m} {q = q})
      where
        at : Seam B p v₀ (power v₀ n) q → ((m : ℕ) → Rows m → Through B m (power v₀ n) q → Through B m (power v n) q) → Through B p (v ++ power v n) q
        at (in_first s h) ih = through_left (inside.through g s) (carry n (kept.inside g (inside.reach g (forget s))) h)
        at (in_second {q = m} h s) ih = let h' = inside.reach g h in through_right h' (ih m (kept.inside g h') s)

    -- where B accepts (u₀, v₀), and u₀ leads only where u leads, B accepts (u, v): with the same i and the same k
    pub preserve : {u₀ u : Word} → ((p : ℕ) → Reach B B.start u p → Rows p) → Below B u₀ u → Accepted B u₀ v₀ → Accepted B u v
    preserve {u₀} rows below c =
        let (p, h, k) = reach_split u₀ c.stem in
        let g = below.reach h in
        let to = carry c.i (rows p g) k in
        record {
          at = c.at;
          i = c.i;
          k = c.k;
          some_round = c.some_round;
          stem = reach_append g to;
          loop = carry_through c.k (stays c.i (rows p g) to) c.loop;
        }
