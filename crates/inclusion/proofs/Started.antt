-- Where the walk is made: the files are good, S and P are in range and the buffers long enough; and so the two automata are within the limits of the
-- walk and numbered by their states. Assumes nothing.
use mathlib.Core.Bool.{Bool, true, false}
use mathlib.Core.List.{List}
use mathlib.Core.Path.{◌≡◌, refl, sym, ap, subst, ◌∙◌}
use Prim.Native.Nat.{ℕ}
use Rattle.acceptance.specs.Contexts.{Small}
use Rattle.acceptance.proofs.Targets.{small_more}
use Rattle.growth.specs.Numbered.{Bounded, Numbered}
use Rattle.growth.proofs.Numbered.{numbered}
use Rattle.automata.specs.declared.Head.{Head}
use Rattle.std.specs.Prelude.{Result, Ok, Err}
use Rattle.records.specs.declared.Fault.{Fault}
use Rattle.records.specs.declared.Refusal.{Refusal}
use Rattle.records.specs.Spelled.{spelled}
use Rattle.records.specs.Faults.{judged, head_of}
use Rattle.records.proofs.Good.{good_file}
use Rattle.records.proofs.Limits.{spelled_small}
use Rattle.loading.specs.Outset.{sizes_of, long_enough, outset_of}
use Rattle.search.specs.Ending.{Buffers}
use Rattle.inclusion.specs.Answers.{walks, start_by, start_of}
use Rattle.inclusion.specs.Decided.{states_of, Made}

-- ---- a good file

-- its automaton, by the number of its states
states_small : (n : ℕ) (s : List ℕ) {h : Head} → judged n s ≡ Ok h → Small (states_of s) (spelled s)
unfolding head_of
states_small n s {h} e = subst (λ (h : Head). Small h.states (spelled s)) (good_file n s e).head_is (spelled_small n s e).small

within_limit : (n : ℕ) (s : List ℕ) {h : Head} → judged n s ≡ Ok h → Small n (spelled s)
within_limit n s e = let limits = spelled_small n s e in small_more limits.states_within limits.small

-- ---- the walk is made

-- the files are good, with these heads, and enough is lent
pub record Ready (model rule : List ℕ) (S P : ℕ) (lent : Buffers) (a b : Head) : Type 0 where
  pub model_good : judged 16 model ≡ Ok a
  pub rule_good : judged 8 rule ≡ Ok b
  pub lends : long_enough S P (sizes_of lent) ≡ true

module _ {model rule : List ℕ} {S P : ℕ} {lent : Buffers} where
  pub heads : {a b : Head} → outset_of (judged 16 model) (judged 8 rule) (long_enough S P (sizes_of lent)) ≡ Ok (a, b) → Ready model rule S P lent a b
  unfolding outset_of
  heads {a} {b} e = at (judged 16 model) refl (judged 8 rule) refl (long_enough S P (sizes_of lent)) refl e
    where
      at : (f : Result Head Fault) → judged 16 model ≡ f → (g : Result Head Fault) → judged 8 rule ≡ g → (c : Bool) → long_enough S P (sizes_of lent) ≡ c
          → outset_of f g c ≡ Ok (a, b) → Ready model rule S P lent a b
      at (Ok x) ef (Ok y) eg true ec e =
          let same : (x, y) ≡ (a, b) = cc in
          record { model_good = ef ∙ ap (λ (p : Head × Head). Ok p.0) same; rule_good = eg ∙ ap (λ (p : Head × Head). Ok p.1) same; lends = ec }
      at (Ok x) ef (Ok y) eg false ec e = absurd cc
      at (Ok x) ef (Err fault) eg c ec e = absurd cc
      at (Err fault) ef g eg c ec e = absurd cc

  pub ready : Made model rule S P lent → (a : Head) × (b : Head) × Ready model rule S P lent a b
  unfolding start_of
  ready e = at (outset_of (judged 16 model) (judged 8 rule) (long_enough S P (sizes_of lent))) refl (sym e)
    where
      at : (o : Result (Head × Head) Refusal) → outset_of (judged 16 model) (judged 8 rule) (long_enough S P (sizes_of lent)) ≡ o → walks ≡ start_by o
          → (a : Head) × (b : Head) × Ready model rule S P lent a b
      at (Ok (a, b)) o e = (a, b, heads o)
      at (Err r) o e = absurd cc

  -- both automata are as the walk wants them
  module _ {a b : Head} (r : Ready model rule S P lent a b) where
    pub model_bounded : Bounded 16 16 (spelled model)
    model_bounded = record { small = within_limit 16 model r.model_good; letter_bound = (spelled_small 16 model r.model_good).letter_within }

    pub rule_small : Small 8 (spelled rule)
    rule_small = within_limit 8 rule r.rule_good

    pub model_numbered : Numbered (states_of model) (spelled model)
    model_numbered = numbered (states_small 16 model r.model_good)

    pub rule_numbered : Numbered (states_of rule) (spelled rule)
    rule_numbered = numbered (states_small 8 rule r.rule_good)
