-- The lasso that a round finds can be read back: its indices are those of entries, and the links of a period table lead backward. Assumes nothing.
use mathlib.Core.Path.{◌≡◌, ap, subst}
use mathlib.Core.Logic.{◌⊎◌}
use mathlib.Core.Bool.{true}
use mathlib.Core.List.{List}
use Prim.Native.Nat.{ℕ, ◌≤◌, ◌<◌}
use native.Mathlib.Omega.{arith}
use lib.ListN.{length, get_or, take, length-map}
use Rattle.std.specs.Prelude.{Ok, Err}
use Rattle.acceptance.specs.Lasso.{Aut}
use Rattle.growth.specs.Grow.{ended, entries}
use Rattle.growth.proofs.Steps.{steps_mem}
use Rattle.covering.specs.Entries.{Period, links_of, contexts_of}
use Rattle.periods.specs.Periods.{period_table}
use Rattle.periods.proofs.Packed.{period_parents}
use Rattle.walk.specs.Words.{top_of, parent_of}
use Rattle.walk.specs.Walk.{rejected, search_round, pairs_of, accepts}
use Rattle.walk.proofs.Runs.{Searched, one_fails, searched}
use Rattle.walk.proofs.Cut.{periods}
use Rattle.spelling.specs.Written.{Backward}
use Rattle.rounds.specs.declared.Tally.{Tally}
use Rattle.rounds.specs.declared.Stop.TheVariants.{Lacking, Found}
use Rattle.rounds.specs.Finished.{Legible}

-- ---- where none was found

module _ {room : ℕ} {u links : List ℕ} {c : Tally} where
  pub through_legible : Legible room u links (Ok c)
  through_legible = record { lasso = λ d l e. absurd cc }

  pub lacking_legible : Legible room u links (Err (Lacking c))
  lacking_legible = record { lasso = λ d l e. absurd cc }

-- ---- where one was

-- the pair is one of a stem and a period
pair_low : (u : List ℕ) (c : ℕ × ℕ) (v : List Period) (t : ℕ) {k i j : ℕ} → search_round u c v t ≡ rejected k i j → (i < length u) × (j < length v)
unfolding pairs_of
pair_low u c v t e = at (searched (accepts u (contexts_of v)) (pairs_of u c.0 c.1 (links_of v)) t e)
  where
    at : {k i j : ℕ} → Searched (accepts u (contexts_of v)) (pairs_of u c.0 c.1 (links_of v)) t (rejected k i j) → (i < length u) × (j < length v)
    at (one_fails k i j _ _ m _) =
        let (x, y, l, h, _, same) = steps_mem {E = ℕ × ℕ} (length u) (length (links_of v)) _ (λ i j. (i, j)) m in
        let low : y < length v = omega (arith, length-map v (λ (q : Period). q.link)) in
        (rw (ap (λ (c : ℕ × ℕ). c.0) same) l, rw (ap (λ (c : ℕ × ℕ). c.1) same) low)

module _ (A B : Aut) (room s rows : ℕ) (short : room ≤ 65535) {v : List Period} (e : period_table A B s rows room ≡ ended v) where
  links_back : Backward true (links_of v)
  links_back =
      let is : entries (period_table A B s rows room) ≡ v = ap entries e in
      let long : length (links_of v) ≡ length v = length-map v (λ (p : Period). p.link) in
      let low : length v ≤ room = rw is at ((periods A B s rows).within room) in
      record {
        short = omega arith;
        parents = λ i l h. subst (λ (w : List Period). (parent_of true (get_or (links_of w) i 0) ≡ top_of true) ⊎ (parent_of true (get_or (links_of w) i 0) < i)) is
            (period_parents A B s rows room i (rw is (omega arith)));
      }

  pub found_legible : (u : List ℕ) (t : ℕ) {links : List ℕ} {c : Tally} {k i j : ℕ} → search_round u (s, rows) v t ≡ rejected k i j → take (length v) links ≡ links_of v
      → Legible room u links (Err (Found c (record { stem = i; period = j; size = length v })))
  found_legible u t {links} {i = i} {j = j} h kept = record {
    lasso = λ d l same.
        let (m, n) = pair_low u (s, rows) v t h in
        let of : record { stem = i; period = j; size = length v } ≡ l = cc in
        let low : length v ≤ room = rw e at ((periods A B s rows).within room) in
        let back : Backward true (take (length v) links) = rw kept links_back in
        rw (← of) (m, n, low, back);
  }
