-- The members of a set as a list: which they are, and how many. Assumes nothing.
use mathlib.Core.Path.{◌≡◌}
use mathlib.Core.Logic.{◌≢◌}
use mathlib.Core.Bool.{Bool, true, false}
use mathlib.Core.List.{List, ◌++◌}
use Prim.Native.Nat.{ℕ, zero, suc, ◌≤◌, ◌<◌}
use native.Mathlib.Omega.{arith}
use lib.ListN.{length, get_or}
use Rattle.bits.specs.Bits.{bit}
use Rattle.bits.specs.Sets.{SetIs}
use Rattle.acceptance.specs.Lasso.{Word, Aut, Reach}
use Rattle.acceptance.proofs.Pigeonhole.{different_fit}
use Rattle.growth.specs.Steps.{gather, only}
use Rattle.growth.specs.Numbered.{Numbered}
use Rattle.growth.specs.Tables.{members}
use Rattle.growth.proofs.Entries.{At, at_head, at_tail, at_nil, at_get_d, at_mem, mem_at, entry}
use Rattle.growth.proofs.Steps.{mem_gather, gather_mem, mem_only, only_mem}
use Rattle.growth.proofs.Numbered.{same_state}

pub member_at : (n s q : ℕ) → q < n → bit s q ≡ true → (i : ℕ) × At (members n s) i q
unfolding members
member_at n s q l t = mem_at (mem_gather 0 n (λ q. only (bit s q) q) q (omega arith) (omega arith) (mem_only (bit s q) q t))

member_has : (n s : ℕ) {i q : ℕ} → At (members n s) i q → (q < n) × (bit s q ≡ true)
unfolding members
member_has n s a =
    let (m, _, l, o) = gather_mem 0 n (λ q. only (bit s q) q) (at_mem a) in
    let (t, e) = only_mem (bit s m) o in
    (rw e (omega arith), rw e t)

-- they rise
rising : (i k : ℕ) (f : ℕ → Bool) {j l p r : ℕ} → j < l → At (gather i k (λ q. only (f q) q)) j p → At (gather i k (λ q. only (f q) q)) l r → p < r
unfolding gather
rising i zero f h a b = absurd (at_nil a)
rising i (suc k) f h a b = at (f i) h a b (λ j l p r h a b. rising (suc i) k f h a b)
  where
    rest : List ℕ
    rest = gather (suc i) k (λ q. only (f q) q)

    at : (t : Bool) {j l p r : ℕ} → j < l → At (only t i ++ rest) j p → At (only t i ++ rest) l r → ((j l p r : ℕ) → j < l → At rest j p → At rest l r → p < r) → p < r
    at false h a b ih = ih _ _ _ _ h a b
    at true h at_head at_head ih = absurd (omega arith)
    at true h at_head (at_tail b) ih = let (m, l, _, o) = gather_mem (suc i) k (λ q. only (f q) q) (at_mem b) in rw (only_mem (f m) o).1 l
    at true h (at_tail a) at_head ih = absurd (omega arith)
    at true h (at_tail a) (at_tail b) ih = ih _ _ _ _ (omega arith) a b

-- a set of states that B reaches has at most b members
pub members_fit : {n b s : ℕ} {B : Aut} {Rows : ℕ → Type 0} → Numbered b B → SetIs n s Rows → ((q : ℕ) → Rows q → (w : Word) × Reach B B.start w q) → length (members n s) ≤ b
unfolding members
members_fit {n} {b} {s} {B} by rows comes = different_fit b (length ms) (λ i. by.place (get_or ms i 0)) low distinct
  where
    ms : List ℕ
    ms = members n s

    reached : {i q : ℕ} → At ms i q → (w : Word) × Reach B B.start w q
    reached {q = q} a = let (l, t) = member_has n s a in comes q (rows.only q l t)

    low : (i : ℕ) → i < length ms → by.place (get_or ms i 0) < b
    low i l = let (q, a) = entry ms i l in rw (at_get_d 0 a) (by.below (reached a).1)

    distinct : (i j : ℕ) → i < j → j < length ms → by.place (get_or ms i 0) ≢ by.place (get_or ms j 0)
    distinct i j l m e =
        let (p, a) = entry ms i (omega arith) in
        let (q, c) = entry ms j m in
        let same : p ≡ q = same_state by (reached a).1 (reached c).1 (rw (at_get_d 0 a, at_get_d 0 c) at e) in
        let apart : p < q = rising 0 n (bit s) l a c in
        omega arith
