-- The test of a lasso: the set of states that its stem leads to and the rows of its period's context decide whether it is accepted. Assumes nothing.
use mathlib.Core.Path.{◌≡◌}
use mathlib.Core.Bool.{Bool, true}
use Prim.Native.Nat.{ℕ, zero, suc, ◌≤◌, ◌<◌}
use native.Mathlib.Omega.{arith}
use Rattle.bits.specs.Bits.{bit}
use Rattle.bits.specs.Sets.{SetIs}
use Rattle.acceptance.specs.Lasso.{Word, power, Aut, Reach, here, Through, accepting, Accepted}
use Rattle.acceptance.proofs.Paths.{reach_append, reach_split, Seam, in_first, in_second, through_split, through_left, through_end}
use Rattle.acceptance.proofs.Warshall.{Reaches, stay, then, reaches_append, reaches_small}

-- the pairs that rows say
abbrev pub by_row : (ℕ → ℕ) → ℕ → ℕ → Bool
by_row row q q' = bit (row q) q'

-- copies of the period lead from `from` to a state `at`, one leads from there through acceptance to a state `to`, and copies lead back
pub record Loops (n : ℕ) (reach through : ℕ → ℕ) (from : ℕ) : Type 0 where
  pub at : ℕ
  pub to : ℕ
  pub from_small : from < n
  pub at_small : at < n
  pub to_small : to < n
  pub ahead : Reaches n (by_row reach) from at
  pub passes : bit (through at) to ≡ true
  pub back : Reaches n (by_row reach) to at

module _ (n : ℕ) {B : Aut} {v : Word} (reach through : ℕ → ℕ)
    (reaches : (q : ℕ) → q < n → SetIs n (reach q) (Reach B q v)) (passing : (q : ℕ) → q < n → SetIs n (through q) (Through B q v)) where
  -- ---- copies of the period are pairs one after the other

  copies_reach : (k : ℕ) {p q : ℕ} → p < n → Reach B p (power v k) q → Reaches n (by_row reach) p q
  copies_reach zero l here = stay
  copies_reach (suc k) {p} l h =
      let (m, g, r) = reach_split v h in
      let (j, e) = (reaches p l).has m g in
      then j e (copies_reach k j r)

  reach_copies : {p q : ℕ} → p < n → Reaches n (by_row reach) p q → (k : ℕ) × Reach B p (power v k) q
  reach_copies l stay = (0, here)
  reach_copies l (then {q = p} {m = m} j e path) = let (k, h) = reach_copies j path in (suc k, reach_append ((reaches p l).only m j e) h)

  -- a round through acceptance, of which copies have led from `home` to p and the other k lead back: one of these passes
  turning : (k : ℕ) → 1 ≤ k → {from home p : ℕ} → from < n → p < n → Reaches n (by_row reach) from p → Reaches n (by_row reach) home p
      → Through B p (power v k) home → Loops n reach through from
  turning zero i f l ahead past t = absurd (omega arith)
  turning (suc k) i {from} {home} {p} f l ahead past t = at k (through_split v t) (λ i m. turning k i {from = from} {home = home} {p = m} f)
    where
      now : (k m : ℕ) → Through B p v m → Reach B m (power v k) home → Loops n reach through from
      now k m t h =
          let (j, e) = (passing p l).has m t in
          record { at = p; to = m; from_small = f; at_small = l; to_small = j; ahead = ahead; passes = e; back = reaches_append (copies_reach k j h) past }

      at : (k : ℕ) → Seam B p v (power v k) home
          → (1 ≤ k → (m : ℕ) → m < n → Reaches n (by_row reach) from m → Reaches n (by_row reach) home m → Through B m (power v k) home → Loops n reach through from)
          → Loops n reach through from
      at k (in_first {q = m} t h) ih = now k m t h
      at zero (in_second {q = m} h (accepting f here)) ih = now zero m (through_end h f) here
      at (suc k) (in_second {q = m} h t) ih =
          let (j, e) = (reaches p l).has m h in
          ih (omega arith) m j (reaches_append ahead (then j e stay)) (reaches_append past (then j e stay)) t

  -- ---- the test, s being the states that the stem leads to

  module _ {u : Word} {s : ℕ} (stems : SetIs n s (Reach B B.start u)) where
    pub accepted_loops : Accepted B u v → (q : ℕ) × (bit s q ≡ true) × Loops n reach through q
    accepted_loops a =
        let (q, g, h) = reach_split u a.stem in
        let (l, e) = stems.has q g in
        let ahead = copies_reach a.i l h in
        (q, e, turning a.k a.some_round l (reaches_small l ahead) ahead stay a.loop)

    pub loops_accepted : (q : ℕ) → bit s q ≡ true → Loops n reach through q → Accepted B u v
    loops_accepted q e o =
        let (i, ahead) = reach_copies o.from_small o.ahead in
        let (k, back) = reach_copies o.to_small o.back in
        record {
          at = o.at;
          i = i;
          k = suc k;
          some_round = omega arith;
          stem = reach_append (stems.only q o.from_small e) ahead;
          loop = through_left ((passing o.at o.at_small).only o.to o.to_small o.passes) back;
        }
