-- What follows from the contract alone: any two results that it allows coincide, and more room and longer buffers never change an answer of 0, its words
-- or its tables. Assumes nothing.
use mathlib.Core.Bool.{true}
use mathlib.Core.List.{List}
use mathlib.Core.Path.{◌≡◌, refl, ap, subst⁻¹}
use Prim.Native.Nat.{ℕ, ◌≤◌}
use native.Mathlib.Omega.{arith}
use lib.ListN.{length, take}
use Rattle.bits.proofs.Truth.{coincide}
use Rattle.growth.specs.Lent.{over}
use Rattle.records.specs.Spelled.{spelled}
use Rattle.search.specs.declared.Counts.{Counts}
use Rattle.search.specs.declared.Lengths.{Lengths}
use Rattle.walk.specs.Walk.{Verdict, included, shown, stems_full, periods_full, Walked}
use Rattle.search.specs.Ending.{Buffers, counts_of, ending_by, stem_shown, period_shown, left_by}
use Rattle.walk.proofs.Runs.{decided as conclusive}
use Rattle.walk.proofs.Room.{more_room}
use Rattle.inclusion.specs.declared.Answer.{Answer}
use Rattle.inclusion.specs.declared.Answer.TheVariants as says
use Rattle.inclusion.specs.Answers.{answer_to, walk_of, numbers_of}
use Rattle.inclusion.specs.Decided.{number_of, counts_in, Made, Decided}
use Rattle.inclusion.proofs.Answered.{answer_by, counts_are, zero_decided, shown_from}
use Rattle.inclusion.proofs.Demands.{written, Outcome, stopped, walked, outcome, made_by}
use Rattle.inclusion.proofs.Refusals.{stop_number}

module _ {model rule : List ℕ} {S P : ℕ} {old : Buffers} {r : Answer} {new : Buffers} (d : Decided model rule S P old r new) where
  pub same_result : {r' : Answer} {new' : Buffers} → Decided model rule S P old r' new' → (r ≡ r') × (new ≡ new')
  same_result e = (coincide d.answer e.answer, coincide d.buffers e.buffers)

came : {model rule : List ℕ} {S P : ℕ} {old : Buffers} {r : Answer} {new : Buffers} → Decided model rule S P old r new → Outcome model rule S P old r new
came {model} {rule} {S} {P} {old} d = rw (d.answer, d.buffers) (outcome model rule S P old)

-- ---- an answer of 0

-- the first elements of two buffers in which the same were written
alike : {n : ℕ} (w old old' : List ℕ) → n ≡ length w → take n (over w old) ≡ take n (over w old')
alike w old old' e = coincide (written w old e) (written w old' e)

-- it is the walk's, and does not speak of the room
record Zero (model rule : List ℕ) (S P : ℕ) (old : Buffers) (r : Answer) (new : Buffers) : Type 0 where
  concludes : conclusive (walk_of model rule S P).finish.verdict ≡ true
  answer_is : (S' P' : ℕ) → r ≡ answer_by S' P' (counts_of (walk_of model rule S P)) (walk_of model rule S P).finish.verdict
  left_is : new ≡ left_by (walk_of model rule S P) P old

any_room : (S P S' P' : ℕ) (c : Counts) (v : Verdict) → conclusive v ≡ true → answer_by S P c v ≡ answer_by S' P' c v
unfolding answer_to ending_by
any_room S P S' P' c included d = refl
any_room S P S' P' c (shown x y) d = refl
any_room S P S' P' c (stems_full k) d = absurd cc
any_room S P S' P' c periods_full d = absurd cc

zero_of : {model rule : List ℕ} {S P : ℕ} {old : Buffers} {r : Answer} {new : Buffers} → Outcome model rule S P old r new → number_of r ≡ 0 → Zero model rule S P old r new
unfolding numbers_of
zero_of {model} {rule} {S} {P} {old} (stopped refusal e) z = absurd (omega (arith, stop_number model rule S P old e))
zero_of {model} {rule} {S} {P} (walked m) z =
    let walk = walk_of model rule S P in
    let d = (zero_decided S P (counts_of walk) walk.finish.verdict).0 z in
    record { concludes = d; answer_is = λ S' P'. any_room S P S' P' (counts_of walk) walk.finish.verdict d; left_is = refl }

-- ---- more room

-- the same answer, with its verdict, counts and lengths; the same words and the same entries of U and W
pub record Kept (r r' : Answer) (new new' : Buffers) : Type 0 where
  pub answer : r' ≡ r
  pub words : (c : Counts) (l : Lengths) → r ≡ says.NotIncluded c l → (take l.stem new'.stem ≡ take l.stem new.stem) × (take l.period new'.period ≡ take l.period new.period)
  pub tables : (take (counts_in r).u new'.smallest ≡ take (counts_in r).u new.smallest) × (take (counts_in r).w new'.largest ≡ take (counts_in r).w new.largest)

-- one walk's answer, and what it leaves in any two sets of buffers
left_alike : (walk : Walked) (S P P' : ℕ) (old old' : Buffers)
    → let r = answer_by S P' (counts_of walk) walk.finish.verdict in Kept r r (left_by walk P old) (left_by walk P' old')
unfolding left_by
left_alike walk S P P' old old' =
    let verdict = walk.finish.verdict in
    let counts = counts_are S P' (counts_of walk) verdict in
    record {
      answer = refl;
      words = λ c l q. let s = shown_from S P' (counts_of walk) verdict q in (
        alike (stem_shown verdict) old'.stem old.stem s.stem_is,
        alike (period_shown verdict) old'.period old.period s.period_is,
      );
      tables = (
        alike walk.smallest old'.smallest old.smallest (ap (λ (c : Counts). c.u) counts),
        alike walk.largest old'.largest old.largest (ap (λ (c : Counts). c.w) counts),
      );
    }

pub more_kept : {model rule : List ℕ} {S P S' P' : ℕ} {old old' : Buffers} {r r' : Answer} {new new' : Buffers} → Decided model rule S P old r new → Decided model rule S' P' old' r' new'
    → number_of r ≡ 0 → S ≤ S' → P ≤ P' → Made model rule S' P' old' → Kept r r' new new'
more_kept {model} {rule} {S} {P} {S'} {P'} {old} {old'} d e z l k m =
    let zero = zero_of (came d) z in
    let (r_is, new_is) = made_by model rule S' P' old' m (came e) in
    let walk = walk_of model rule S P in
    rw (r_is, new_is, zero.answer_is S' P', zero.left_is)
    (subst⁻¹ (λ (more : Walked). Kept (answer_by S' P' (counts_of walk) walk.finish.verdict) (answer_by S' P' (counts_of more) more.finish.verdict) (left_by walk P old) (left_by more P' old'))
    (more_room (spelled model) (spelled rule) S P S' P' zero.concludes l k) (left_alike walk S' P P' old old'))
