-- The tables and the rounds of a walk with other room: a run that gives a verdict is the same with more room, and with less it stops at the first table
-- that needs more. Assumes nothing.
use mathlib.Core.Path.{◌≡◌, refl}
use mathlib.Core.Bool.{Bool, true, false≢true}
use mathlib.Core.Option.{none, some}
use mathlib.Core.List.{List, [], ◌∷◌}
use Prim.Native.Nat.{ℕ, ◌≤◌, ◌<◌, max}
use native.Mathlib.Nat.{le_trans}
use native.Mathlib.Decide.{dec_le}
use native.Mathlib.Omega.{arith}
use borrow.Author.Tests.{lt-ltb, le-ltb}
use lib.ListN.{length}
use Rattle.acceptance.specs.Lasso.{Aut}
use Rattle.growth.specs.Grow.{Outcome, ended, full, entries, table}
use Rattle.growth.proofs.Rooms.{table_length, table_filled, table_fits, table_overfull}
use Rattle.stems.specs.Stems.{stem_covers, stem_root, stem_next, stem_table}
use Rattle.covering.specs.Entries.{Period, period_covers, links_of}
use Rattle.periods.specs.Periods.{period_first, period_next, period_table}
use Rattle.walk.specs.Walk.{shown, stems_full, periods_full, Finish, run}
use Rattle.walk.specs.Words.{stem_word, period_word}
use Rattle.walk.specs.Room.{Visit, visits, stops_at}
use Rattle.walk.proofs.Runs.{decided, Ran, done, lacking, going, found}

-- ---- tables with other room

pub record Roomy {E : Type 0} (table : ℕ → Outcome E) : Type 0 where
  pub within : (room : ℕ) → length (entries (table room)) ≤ room
  pub filled : (room : ℕ) (t : List E) → table room ≡ full t → length t ≡ room
  pub fits : (room other : ℕ) (t : List E) → table other ≡ ended t → length t ≤ room → table room ≡ ended t
  pub overfull : (room other : ℕ) (t : List E) → table other ≡ ended t → room < length t → (s : List E) × (table room ≡ full s)

roomy : {E : Type 0} (covers : E → E → Bool) (next : ℕ → E → List E) (first : List E) → Roomy (λ room. table covers next room first)
roomy covers next first = record {
  within = table_length covers next first;
  filled = λ room t. table_filled covers next first room;
  fits = λ room other t. table_fits covers next first room other;
  overfull = λ room other t. table_overfull covers next first room other;
}

pub stems : (A B : Aut) (largest : Bool) → Roomy (stem_table A B largest)
unfolding stem_table
stems A B largest = roomy (stem_covers largest) (stem_next A B) (stem_root A B ∷ [])

pub periods : (A B : Aut) (s rows : ℕ) → Roomy (period_table A B s rows)
unfolding period_table
periods A B s rows = roomy (period_covers rows) (period_next A B) (period_first A B s)

-- a table that ended ends so with more room
pub with_more : {E : Type 0} {table : ℕ → Outcome E} → Roomy table → (room more : ℕ) {t : List E} → table room ≡ ended t → room ≤ more → table more ≡ ended t
with_more r room more {t} e l = r.fits more room t e (le_trans (rw e at (r.within room)) l)

-- ---- the rounds with other room

module _ {A B : Aut} {u : List ℕ} where
  pub ran_more : {room more : ℕ} {cs : List (ℕ × ℕ)} {p t : ℕ} {o : Finish} → Ran A B u room cs p t o → decided o.verdict ≡ true → room ≤ more → Ran A B u more cs p t o
  ran_more done d l = done
  ran_more (lacking v e) d l = absurd (false≢true d)
  ran_more {room} {more} (going {c = c} v e s r) d l = going v (with_more (periods A B c.0 c.1) room more e l) s (ran_more r d l)
  ran_more {room} {more} (found {c = c} v e s) d l = found v (with_more (periods A B c.0 c.1) room more e l) s

  -- a table that lacks room is filled, and no other had more entries
  pub ran_filled : {room : ℕ} {cs : List (ℕ × ℕ)} {p t : ℕ} {o : Finish} → Ran A B u room cs p t o → p ≤ room → o.verdict ≡ periods_full → o.periods ≡ room
  ran_filled done l q = absurd cc
  ran_filled {room} (lacking {c = c} v e) l q = omega (arith, (periods A B c.0 c.1).filled room v e)
  ran_filled {room} (going {c = c} v e s r) l q = ran_filled r (omega (arith, rw e at ((periods A B c.0 c.1).within room))) q
  ran_filled (found v e s) l q = absurd cc

  pub ran_not_stems : {room : ℕ} {cs : List (ℕ × ℕ)} {p t : ℕ} {o : Finish} {k : ℕ} → Ran A B u room cs p t o → o.verdict ≡ stems_full k → ⊥
  ran_not_stems done q = cc
  ran_not_stems (lacking v e) q = cc
  ran_not_stems (going v e s r) q = ran_not_stems r q
  ran_not_stems (found v e s) q = cc

-- the rounds with room for P, told from a run that comes to some tables and gives a verdict: the same, or stopped at the first with more than P entries
pub data Cut (P : ℕ) (tables : List Visit) (free : Finish) : Finish → Type 0 where
  uncut : stops_at P tables ≡ none → Cut P tables free free
  cut : (t : ℕ) → stops_at P tables ≡ some t → Cut P tables free (record { verdict = periods_full; periods = P; tests = t })

cut_later : {P : ℕ} {x : Visit} {tables : List Visit} {free f : Finish} → x.size ≤ P → Cut P tables free f → Cut P (x ∷ tables) free f
unfolding stops_at
cut_later l (uncut q) = uncut (rw (le-ltb _ _ l, stops_at) q)
cut_later l (cut t q) = cut t (rw (le-ltb _ _ l, stops_at) q)

module _ (A B : Aut) (u : List ℕ) (P M : ℕ) where
  -- a table with more than P entries
  cut_now : {free : Finish} (c : ℕ × ℕ) (cs : List (ℕ × ℕ)) (p t : ℕ) (v : List Period) (rest : List Visit) → period_table A B c.0 c.1 M ≡ ended v → P < length v → p ≤ P
      → Cut P (record { size = length v; before = t } ∷ rest) free (run A B u P (c ∷ cs) p t)
  unfolding run stops_at
  cut_now c cs p t v rest e l k =
      let (s, f) = (periods A B c.0 c.1).overfull P M v e l in
      let most : max p (length s) ≡ P = omega (arith, (periods A B c.0 c.1).filled P s f) in
      rw (f, run) (rw most (cut t (rw (lt-ltb P (length v) l, stops_at))))

  pub ran_cut : {cs : List (ℕ × ℕ)} {p t : ℕ} {o : Finish} → Ran A B u M cs p t o → decided o.verdict ≡ true → p ≤ P → Cut P (visits A B u M cs t) o (run A B u P cs p t)
  unfolding visits stops_at run
  ran_cut done d l = uncut refl
  ran_cut (lacking v e) d l = absurd (false≢true d)
  ran_cut (going {c = c} {cs = cs} {p = p} {t = t} {k = k} {o = o} v e s r) d l = rw (e, visits) (rw s (at (dec_le (length v) P) (λ m. ran_cut r d m)))
    where
      at : Dec (length v ≤ P) → (max p (length v) ≤ P → Cut P (visits A B u M cs k) o (run A B u P cs (max p (length v)) k))
          → Cut P (record { size = length v; before = t } ∷ visits A B u M cs k) o (run A B u P (c ∷ cs) p t)
      at (yes m) ih = let f = (periods A B c.0 c.1).fits P M v e m in rw (f, run) (rw s (cut_later m (ih (omega arith))))
      at (no m) ih = cut_now c cs p t v (visits A B u M cs k) e (omega arith) l
  ran_cut (found {c = c} {cs = cs} {p = p} {t = t} {k = k} {i = i} {j = j} v e s) d l = rw (e, visits) (rw s (at (dec_le (length v) P)))
    where
      at : Dec (length v ≤ P) → Cut P (record { size = length v; before = t } ∷ []) (record { verdict = shown (stem_word u i) (period_word (links_of v) j); periods = max p (length v); tests = k }) (run A B u P (c ∷ cs) p t)
      at (yes m) = let f = (periods A B c.0 c.1).fits P M v e m in rw (f, run) (rw s (cut_later m (uncut refl)))
      at (no m) = cut_now c cs p t v [] e (omega arith) l
