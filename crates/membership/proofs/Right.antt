-- The lasso test is right: it is true exactly if the inputs are good and the lasso is accepted, false exactly if they are and it is not.
-- Assumes nothing.
use mathlib.Core.Bool.{Bool, true, false, false≢true}
use mathlib.Core.Logic.{◌↔◌}
use mathlib.Core.Path.{◌≡◌, refl, sym, ◌∙◌, subst⁻¹}
use mathlib.Core.List.{List}
use Prim.Native.Nat.{ℕ}
use native.Mathlib.Omega.{arith}
use borrow.Author.Tests.{eqb-true, eqb-false}
use lib.Dec.{eqb}
use lib.ListN.{length}
use Rattle.std.specs.Prelude.{Result, Ok, Err}
use Rattle.std.specs.Result.{result_and}
use Rattle.acceptance.specs.Lasso.{Word, Aut, Accepted}
use Rattle.acceptance.specs.Contexts.{Small}
use Rattle.acceptance.proofs.Targets.{small_more}
use Rattle.acceptance.proofs.Words.{describes_word}
use Rattle.automata.specs.declared.Head.{Head}
use Rattle.automata.proofs.Accepting.{accepted}
use Rattle.records.specs.declared.Fault.{Fault}
use Rattle.records.specs.declared.Refusal.{Refusal}
use Rattle.records.specs.Spelled.{spelled}
use Rattle.records.specs.Faults.{judged, refusal_of}
use Rattle.records.proofs.Limits.{spelled_small}
use Rattle.membership.specs.Checks.{checked}
use Rattle.membership.specs.Test.{verdict, tested_on, tested}
use Rattle.membership.specs.Meaning.{Sound, TestRight}
use Rattle.membership.proofs.Judged.{empty_period}
use Rattle.membership.proofs.Lettered.{checked_lettered, lettered_checked}

-- ---- the verdict

abbrev told : Bool → Result Bool Refusal
told b = Ok b

said : {P : Type 0} (b : Bool) → (b ≡ true) ↔ P → ((told b ≡ Ok true) ↔ P) × ((told b ≡ Ok false) ↔ (P → ⊥))
said true iff = ((λ e. iff.0 refl, λ a. refl), (λ e. absurd cc, λ n. absurd (n (iff.0 refl))))
said false iff = ((λ e. absurd cc, λ a. absurd (false≢true (iff.1 a))), (λ e a. false≢true (iff.1 a), λ n. refl))

verdict_right : {A : Aut} → Small 16 A → (u v : Word)
    → ((told (verdict A u v) ≡ Ok true) ↔ Accepted A u v) × ((told (verdict A u v) ≡ Ok false) ↔ (Accepted A u v → ⊥))
unfolding verdict
verdict_right {A} small u v = said (verdict A u v) (accepted small (describes_word small v) u)

-- ---- how an answer comes about

data Outcome (records : List ℕ) (u v : Word) : Result Bool Refusal → Type 0 where
  decided : Sound records u v → Outcome records u v (Ok (verdict (spelled records) u v))
  refused : {r : Refusal} → (Sound records u v → ⊥) → Outcome records u v (Err r)

module _ {records : List ℕ} {u v : Word} where
  words_outcome : (head : Head) → judged 16 records ≡ Ok head → Outcome records u v (tested_on (spelled records) u v)
  unfolding tested_on
  words_outcome head e = at (eqb (length v) 0) refl (checked 0 u) refl (checked 1 v) refl
    where
      at : (a : Bool) → eqb (length v) 0 ≡ a → (b : Result (Unit {0}) Refusal) → checked 0 u ≡ b → (c : Result (Unit {0}) Refusal) → checked 1 v ≡ c
          → Outcome records u v (tested_on (spelled records) u v)
      at true f b g c h =
          let none = eqb-true (length v) 0 f in
          rw (← empty_period (spelled records) u v none) (refused (λ s. let l = s.some_letter in omega (arith, none)))
      at false f (Ok x) g (Ok y) h = rw (f, g, h) (decided (record {
        head = head;
        file = e;
        some_letter = omega (arith, eqb-false (length v) 0 f);
        stem = checked_lettered 0 u g;
        period = checked_lettered 1 v h;
      }))
      at false f (Ok x) g (Err r) h = rw (f, g, h) (refused (λ s. let k = sym h ∙ lettered_checked 1 v s.period in cc))
      at false f (Err r) g c h = rw (f, g) (refused (λ s. let k = sym g ∙ lettered_checked 0 u s.stem in cc))

  outcome : Outcome records u v (tested records u v)
  unfolding tested
  outcome = at (judged 16 records) refl
    where
      at : (f : Result Head Fault) → judged 16 records ≡ f → Outcome records u v (result_and (refusal_of 0 f) (tested_on (spelled records) u v))
      at (Ok head) e = words_outcome head e
      at (Err fault) e = refused (λ s. let k = sym e ∙ s.file in cc)

right : {records : List ℕ} {u v : Word} {r : Result Bool Refusal} → r ≡ tested records u v → Outcome records u v r → TestRight records u v r
right {records} {u} {v} e (decided s) =
    let limits = spelled_small 16 records s.file in
    let (accepts, rejects) = verdict_right (small_more limits.states_within limits.small) u v in
    record { answer = e; accepted = (λ e. (s, accepts.0 e), λ a. accepts.1 a.1); rejected = (λ e. (s, rejects.0 e), λ a. rejects.1 a.1) }
right e (refused n) = record {
  answer = e;
  accepted = (λ e. absurd cc, λ a. absurd (n a.0));
  rejected = (λ e. absurd cc, λ a. absurd (n a.0));
}

-- what is proved of the test's answer, for all inputs
pub test_right : {records : List ℕ} {u v : Word} {r : Result Bool Refusal} → r ≡ tested records u v → TestRight records u v r
test_right {records} {u} {v} e = right e (subst⁻¹ (Outcome records u v) e outcome)
