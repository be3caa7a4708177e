-- Where every stem of U with every period of P passes the test, A is included in B (the paper's section 3). Assumes nothing.
use mathlib.Core.Path.{◌≡◌, sym, ap, ◌∙◌}
use mathlib.Core.List.{◌++◌, append_assoc}
use Prim.Native.Nat.{ℕ, zero, suc, ◌+◌, ◌-◌, ◌≤◌, ◌<◌}
use native.Mathlib.Omega.{arith}
use Rattle.acceptance.specs.Lasso.{Word, power, Aut, Reach, Accepted, Period, Included}
use Rattle.acceptance.proofs.Paths.{reach_append, reach_power, period_append, period_reach, power_add}
use Rattle.acceptance.proofs.Rotate.{rotate, unpump}
use Rattle.acceptance.proofs.Pigeonhole.{pigeonhole}
use Rattle.acceptance.proofs.Preserve.{Below, Within, below_trans, within_fewer, preserve}

-- The stems U s and W s and the periods P s w stand for all stems of A at s and all periods of A at s.
-- `smaller` and `larger` say that U and W are bases for ≲ and its converse, `periods` that P s w is one for ≲_w.
pub record Bases (A B : Aut) (U W : ℕ → Word → Type 0) (P : ℕ → Word → Word → Type 0) : Type 0 where
  pub smaller : {u : Word} {s : ℕ} → Reach A A.start u s → (u₀ : Word) × U s u₀ × Below B u₀ u
  pub larger : {u : Word} {s : ℕ} → Reach A A.start u s → (w : Word) × W s w × Below B u w
  pub periods : {v w : Word} {s : ℕ} → W s w → Period A s v s → (v₀ : Word) × P s w v₀ × Within B (Reach B B.start w) v₀ v

-- every lasso that is tested is accepted by B
pub record Tested (B : Aut) (U W : ℕ → Word → Type 0) (P : ℕ → Word → Word → Type 0) : Type 0 where
  pub accepted : {s : ℕ} {u w v : Word} → U s u → W s w → P s w v → Below B u w → Accepted B u v

-- the states that B reaches by a word, as a number below N
pub record Coded (B : Aut) (N : ℕ) : Type 0 where
  pub code : Word → ℕ
  pub small : (w : Word) → code w < N
  pub decides : {u w : Word} → code u ≡ code w → Below B u w

module _ {A : Aut} where
  -- periods one after the other, one at least, are a period
  period_power : (k : ℕ) {s : ℕ} {v : Word} → 1 ≤ k → Period A s v s → Period A s (power v k) s
  period_power zero l p = absurd (omega arith)
  period_power (suc k) l p = period_append p (reach_power k (period_reach p))

module _ {A B : Aut} {U W : ℕ → Word → Type 0} {P : ℕ → Word → Word → Type 0} (bases : Bases A B U W P) (tested : Tested B U W P) where
  -- a period after which B is nowhere new
  returning : {u v : Word} {s : ℕ} → Reach A A.start u s → Period A s v s → Below B (u ++ v) u → Accepted B u v
  returning g p returns =
      let (u₀, inU, low) = bases.smaller g in
      let (w, inW, high) = bases.larger g in
      let (v₀, in_p, within) = bases.periods inW p in
      preserve (within_fewer (λ p. high.reach) within) (record { inside = λ g h. returns.reach (reach_append g h) }) (λ p g. g) low (tested.accepted inU inW in_p (below_trans low high))

  -- any other is pumped until B is nowhere new
  looping : (N : ℕ) → Coded B N → {u v : Word} {s : ℕ} → Reach A A.start u s → Period A s v s → Accepted B u v
  looping N coded {u} {v} g p =
      let t = pigeonhole N (λ i. coded.code (u ++ power v i)) (λ i h. coded.small (u ++ power v i)) in
      let i = t.first in
      let j = t.second - t.first in
      let j_pos : 1 ≤ j = omega arith in
      let e : i + j ≡ t.second = omega arith in
      let longer : u ++ power v i ++ power v j ≡ u ++ power v t.second = rw (append_assoc, ← (power_add v i j), e) in
      unpump u v i j j_pos
      (returning (reach_append g (reach_power i (period_reach p))) (period_power j j_pos p) (coded.decides (ap coded.code longer ∙ sym t.same)))

  pub complete : (N : ℕ) → Coded B N → Included A B
  complete N coded = record { every = λ u v l c. let r = rotate u v l c in r.back B (looping N coded r.reached r.looped) }
