-- A loop over rounds: those that are left give what all give, and each adds few tests. Assumes nothing.
use mathlib.Core.Path.{◌≡◌, refl, sym, ap, ◌∙◌}
use mathlib.Core.List.{List, [], ◌++◌}
use Prim.Native.Nat.{ℕ, ◌+◌, ◌-◌, ◌*◌, ◌^◌, ◌≤◌, ◌<◌}
use native.Mathlib.Nat.{mul-le-mul}
use native.Mathlib.Omega.{arith}
use lib.ListN.{length}
use Rattle.std.specs.Prelude.{Result, Ok, Err}
use Rattle.acceptance.specs.Lasso.{Aut}
use Rattle.growth.specs.Grow.{ended}
use Rattle.growth.specs.Steps.{gather}
use Rattle.growth.proofs.Gathered.{gather_next, gather_over}
use Rattle.covering.specs.Entries.{Period}
use Rattle.periods.specs.Periods.{period_table}
use Rattle.rounds.specs.declared.Tally.{Tally}
use Rattle.rounds.specs.declared.Stop.{Stop}
use Rattle.rounds.specs.declared.Stop.TheVariants.{Lacking, Found}
use Rattle.walk.specs.Walk.{included, shown, stems_full, periods_full, Finish, search_round, run}
use Rattle.walk.proofs.Runs.{made, Ran, done, lacking, going, found, runs, run_is}
use Rattle.walk.proofs.Bounds.{round_tests, ran_made}
use Rattle.walk.proofs.Cut.{periods}
use Rattle.rounds.specs.Finished.{finish_of, Finished}
use Rattle.rounds.proofs.Legible.{through_legible}

-- no round
pub none_ran : (A B : Aut) (u : List ℕ) (room : ℕ) {cs : List (ℕ × ℕ)} {links : List ℕ} → cs ≡ [] → (c : Tally) → Finished A B u room cs c.p c.t (Ok c) links
none_ran A B u room e c = rw e (record { finish = run_is done; legible = through_legible })

-- ---- how many tests

module _ (A B : Aut) (u : List ℕ) (room : ℕ) (few : length u ≤ 4096) (short : room ≤ 65535) where
  round_few : (c : ℕ × ℕ) (v : List Period) (t : ℕ) → period_table A B c.0 c.1 room ≡ ended v → made (search_round u c v t) ≤ t + 2 ^ 28
  round_few c v t e =
      let low : length v ≤ room = rw e at ((periods A B c.0 c.1).within room) in
      omega (arith, round_tests u c v t room low, mul-le-mul few short)

  -- m rounds at most, none of which left the loop
  pub tests_more : (cs : List (ℕ × ℕ)) (p t m : ℕ) {c : Tally} {links : List ℕ} → Finished A B u room cs p t (Ok c) links → length cs ≤ m → c.t ≤ t + m * 2 ^ 28
  tests_more cs p t m {c} h l =
      let end : (run A B u room cs p t).tests ≡ c.t = ap (λ (f : Finish). f.tests) h.finish in
      omega (arith, ran_made (runs A B u room cs p t) (2 ^ 28) (λ c v t e l. round_few c v t e))

-- ---- the loop

-- the finish of some rounds and then more: where no lasso was rejected and no table lacked room, that of the rounds that follow
ahead : Finish → (ℕ → ℕ → Finish) → Finish
ahead f more = elim f.verdict [ included ↦ more f.periods f.tests | shown x y ↦ f | stems_full k ↦ f | periods_full ↦ f ]

stopped_ahead : (u links : List ℕ) (e : Stop) (more : ℕ → ℕ → Finish) → ahead (finish_of u links (Err e)) more ≡ finish_of u links (Err e)
unfolding ahead
stopped_ahead u links (Lacking c) more = refl
stopped_ahead u links (Found c l) more = refl

module _ (A B : Aut) (u : List ℕ) (room : ℕ) where
  ran_ahead : {cs : List (ℕ × ℕ)} {p t : ℕ} {o : Finish} → Ran A B u room cs p t o → (ds : List (ℕ × ℕ)) → run A B u room (cs ++ ds) p t ≡ ahead o (run A B u room ds)
  unfolding ahead
  ran_ahead done ds = refl
  ran_ahead (lacking v e) ds = run_is (lacking v e)
  ran_ahead (going v e s r) ds = run_is (going v e s (runs A B u room _ _ _)) ∙ ran_ahead r ds
  ran_ahead (found v e s) ds = run_is (found v e s)

-- the rounds from k on, with the counts so far
pub record Onward (A B : Aut) (u : List ℕ) (room : ℕ) (f : ℕ → List (ℕ × ℕ)) (n : ℕ) (before : Tally) (k : ℕ) (c : Tally) : Type 0 where
  pub gives : run A B u room (gather k (n - k) f) c.p c.t ≡ run A B u room (gather 0 n f) before.p before.t

module _ {A B : Aut} {u : List ℕ} {room : ℕ} {f : ℕ → List (ℕ × ℕ)} {n : ℕ} {before : Tally} {k : ℕ} {c : Tally} (h : Onward A B u room f n before k c) where
  next : k < n → {r : Result Tally Stop} {links : List ℕ} → Finished A B u room (f k) c.p c.t r links
      → ahead (finish_of u links r) (run A B u room (gather (k + 1) (n - (k + 1)) f)) ≡ run A B u room (gather 0 n f) before.p before.t
  next l ran =
      sym (ap (λ (cs : List (ℕ × ℕ)). run A B u room cs c.p c.t) (gather_next f n k l)
      ∙ ran_ahead A B u room (runs A B u room (f k) c.p c.t) (gather (k + 1) (n - (k + 1)) f)
      ∙ ap (λ (o : Finish). ahead o (run A B u room (gather (k + 1) (n - (k + 1)) f))) ran.finish)
      ∙ h.gives

  pub onward : {d : Tally} {links : List ℕ} → k < n → Finished A B u room (f k) c.p c.t (Ok d) links → Onward A B u room f n before (k + 1) d
  unfolding ahead
  onward l ran = record { gives = next l ran }

  pub stop : {e : Stop} {links : List ℕ} → k < n → Finished A B u room (f k) c.p c.t (Err e) links → Finished A B u room (gather 0 n f) before.p before.t (Err e) links
  stop {e} {links} l ran = record { finish = sym (next l ran) ∙ stopped_ahead u links e _; legible = ran.legible }

  pub end : {links : List ℕ} → n ≤ k → Finished A B u room (gather 0 n f) before.p before.t (Ok c) links
  end l = record { finish = sym h.gives ∙ ap (λ (cs : List (ℕ × ℕ)). run A B u room cs c.p c.t) (gather_over f n k l) ∙ run_is done; legible = through_legible }
