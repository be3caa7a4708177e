-- The walk and its parts as relations: what each result says of the tables and tests that led to it. Assumes nothing.
use mathlib.Core.Path.{◌≡◌, refl}
use mathlib.Core.Bool.{Bool, true, false, false≢true}
use mathlib.Core.List.Memᴰ
use mathlib.Core.List.{List, [], ◌∷◌, Memᴰ}
use Prim.Native.Nat.{ℕ, suc, ◌+◌, ◌≤◌, max}
use native.Mathlib.Omega.{arith}
use lib.ListN.{length}
use Rattle.acceptance.specs.Lasso.{Aut}
use Rattle.growth.specs.Grow.{Outcome, ended, full}
use Rattle.stems.specs.Stems.{stem_table}
use Rattle.covering.specs.Entries.{Period, links_of}
use Rattle.periods.specs.Periods.{period_table}
use Rattle.walk.specs.Words.{stem_word, period_word}
use Rattle.walk.specs.Walk.{Verdict, included, shown, stems_full, periods_full, Finish, Walked, Search, passed, rejected, search, rounds, search_round, run, walk}

-- a verdict is given: answer 0
abbrev pub decided : Verdict → Bool
decided included = true
decided (shown u v) = true
decided (stems_full k) = false
decided periods_full = false

-- ---- the tests of one round

abbrev pub made : Search → ℕ
made (passed k) = k
made (rejected k i j) = k

module _ (test : ℕ → ℕ → Bool) where
  -- every pair passed; or one of them was rejected, with at most as many tests as there are pairs
  pub data Searched (cs : List (ℕ × ℕ)) (t : ℕ) : Search → Type 0 where
    all_pass : (k : ℕ) → k ≡ t + length cs → ((c : ℕ × ℕ) → Memᴰ c cs → test c.0 c.1 ≡ true) → Searched cs t (passed k)
    one_fails : (k i j : ℕ) → t ≤ k → k ≤ t + length cs → Memᴰ (i, j) cs → test i j ≡ false → Searched cs t (rejected k i j)

  searched_on : {c : ℕ × ℕ} {cs : List (ℕ × ℕ)} {t : ℕ} {o : Search} → test c.0 c.1 ≡ true → Searched cs (suc t) o → Searched (c ∷ cs) t o
  searched_on {c} {cs} e (all_pass k n h) = all_pass k (omega arith) each
    where
      each : (d : ℕ × ℕ) → Memᴰ d (c ∷ cs) → test d.0 d.1 ≡ true
      each d (Memᴰ.head same) = rw same e
      each d (Memᴰ.tail m) = h d m
  searched_on e (one_fails k i j l n m f) = one_fails k i j (omega arith) (omega arith) (Memᴰ.tail m) f

  searches : (cs : List (ℕ × ℕ)) (t : ℕ) → Searched cs t (search test cs t)
  unfolding search
  searches [] t = all_pass t (omega arith) (λ c m. absurd (Memᴰ.not-nil m))
  searches (c ∷ cs) t = at (test c.0 c.1) refl (searches cs (suc t))
    where
      at : (b : Bool) → test c.0 c.1 ≡ b → Searched cs (suc t) (search test cs (suc t))
          → Searched (c ∷ cs) t (elim b [ true ↦ search test cs (suc t) | false ↦ rejected (suc t) c.0 c.1 ])
      at true e h = searched_on e h
      at false e h = one_fails (suc t) c.0 c.1 (omega arith) (omega arith) (Memᴰ.head refl) e

  pub searched : (cs : List (ℕ × ℕ)) (t : ℕ) {o : Search} → search test cs t ≡ o → Searched cs t o
  searched cs t e = rw e at (searches cs t)

  pub searched_made : {cs : List (ℕ × ℕ)} {t : ℕ} {o : Search} → Searched cs t o → made o ≤ t + length cs
  searched_made (all_pass k n h) = omega arith
  searched_made (one_fails k i j l n m f) = n

-- ---- the rounds

module _ (A B : Aut) (u : List ℕ) where
  pub data Ran (room : ℕ) : List (ℕ × ℕ) → ℕ → ℕ → Finish → Type 0 where
    done : {p t : ℕ} → Ran room [] p t (record { verdict = included; periods = p; tests = t })
    lacking : {c : ℕ × ℕ} {cs : List (ℕ × ℕ)} {p t : ℕ} (v : List Period) → period_table A B c.0 c.1 room ≡ full v
        → Ran room (c ∷ cs) p t (record { verdict = periods_full; periods = max p (length v); tests = t })
    going : {c : ℕ × ℕ} {cs : List (ℕ × ℕ)} {p t k : ℕ} {o : Finish} (v : List Period) → period_table A B c.0 c.1 room ≡ ended v
        → search_round u c v t ≡ passed k → Ran room cs (max p (length v)) k o → Ran room (c ∷ cs) p t o
    found : {c : ℕ × ℕ} {cs : List (ℕ × ℕ)} {p t k i j : ℕ} (v : List Period) → period_table A B c.0 c.1 room ≡ ended v
        → search_round u c v t ≡ rejected k i j
        → Ran room (c ∷ cs) p t (record { verdict = shown (stem_word u i) (period_word (links_of v) j); periods = max p (length v); tests = k })

  pub runs : (room : ℕ) (cs : List (ℕ × ℕ)) (p t : ℕ) → Ran room cs p t (run A B u room cs p t)
  unfolding run
  runs room [] p t = done
  runs room (c ∷ cs) p t = at (period_table A B c.0 c.1 room) refl (λ p t. runs room cs p t)
    where
      go : (v : List Period) (o : Search) → period_table A B c.0 c.1 room ≡ ended v → search_round u c v t ≡ o
          → ((p t : ℕ) → Ran room cs p t (run A B u room cs p t))
          → Ran room (c ∷ cs) p t (elim o [
            | passed k ↦ run A B u room cs (max p (length v)) k
            | rejected k i j ↦ record { verdict = shown (stem_word u i) (period_word (links_of v) j); periods = max p (length v); tests = k }
          ])
      go v (passed k) e s ih = going v e s (ih (max p (length v)) k)
      go v (rejected k i j) e s ih = found v e s

      at : (o : Outcome Period) → period_table A B c.0 c.1 room ≡ o → ((p t : ℕ) → Ran room cs p t (run A B u room cs p t))
          → Ran room (c ∷ cs) p t (elim o [
            | full v ↦ record { verdict = periods_full; periods = max p (length v); tests = t }
            | ended v ↦
                elim (search_round u c v t) [
                  | passed k ↦ run A B u room cs (max p (length v)) k
                  | rejected k i j ↦ record { verdict = shown (stem_word u i) (period_word (links_of v) j); periods = max p (length v); tests = k }
                ]
          ])
      at (full v) e ih = lacking v e
      at (ended v) e ih = go v (search_round u c v t) e refl ih

-- the relation is the function
pub run_is : {A B : Aut} {u : List ℕ} {room : ℕ} {cs : List (ℕ × ℕ)} {p t : ℕ} {o : Finish} → Ran A B u room cs p t o → run A B u room cs p t ≡ o
unfolding run
run_is done = refl
run_is (lacking v e) = rw (e, run)
run_is (going v e s r) = rw (e, run) (rw s (run_is r))
run_is (found v e s) = rw (e, run) (rw s)

-- ---- the walk

pub data Walks (A B : Aut) (S P : ℕ) : Walked → Type 0 where
  u_full : (u : List ℕ) → stem_table A B false S ≡ full u
      → Walks A B S P (record { smallest = u; largest = []; finish = record { verdict = stems_full 0; periods = 0; tests = 0 } })
  w_full : (u w : List ℕ) → stem_table A B false S ≡ ended u → stem_table A B true S ≡ full w
      → Walks A B S P (record { smallest = u; largest = w; finish = record { verdict = stems_full 1; periods = 0; tests = 0 } })
  ran : (u w : List ℕ) {o : Finish} → stem_table A B false S ≡ ended u → stem_table A B true S ≡ ended w → Ran A B u P (rounds A B w) 0 0 o
      → Walks A B S P (record { smallest = u; largest = w; finish = o })

pub walks : (A B : Aut) (S P : ℕ) → Walks A B S P (walk A B S P)
unfolding walk
walks A B S P = at (stem_table A B false S) refl (stem_table A B true S) refl
  where
    at : (o : Outcome ℕ) → stem_table A B false S ≡ o → (p : Outcome ℕ) → stem_table A B true S ≡ p → Walks A B S P (elim o [
      | full u ↦ record { smallest = u; largest = []; finish = record { verdict = stems_full 0; periods = 0; tests = 0 } }
      | ended u ↦
          elim p [
            | full w ↦ record { smallest = u; largest = w; finish = record { verdict = stems_full 1; periods = 0; tests = 0 } }
            | ended w ↦ record { smallest = u; largest = w; finish = run A B u P (rounds A B w) 0 0 }
          ]
    ])
    at (full u) e p f = u_full u e
    at (ended u) e (full w) f = w_full u w e f
    at (ended u) e (ended w) f = ran u w e f (runs A B u P (rounds A B w) 0 0)

pub walk_is : {A B : Aut} {S P : ℕ} {r : Walked} → Walks A B S P r → walk A B S P ≡ r
unfolding walk
walk_is (u_full u e) = rw (e, walk)
walk_is (w_full u w e f) = rw (e, walk) (rw f)
walk_is (ran u w e f h) = rw (e, walk) (rw f (rw (run_is h)))

-- a walk that gives a verdict: its tables ended, and its rounds
pub record Whole (A B : Aut) (S P : ℕ) (r : Walked) : Type 0 where
  pub u_ends : stem_table A B false S ≡ ended r.smallest
  pub w_ends : stem_table A B true S ≡ ended r.largest
  pub rounds_ran : Ran A B r.smallest P (rounds A B r.largest) 0 0 r.finish

pub whole : {A B : Aut} {S P : ℕ} {r : Walked} → Walks A B S P r → decided r.finish.verdict ≡ true → Whole A B S P r
whole (u_full u e) d = absurd (false≢true d)
whole (w_full u w e f) d = absurd (false≢true d)
whole (ran u w e f h) d = record { u_ends = e; w_ends = f; rounds_ran = h }
