-- Document 01's idle programs and its shortcuts do not meet the contract: on a sample each, a result that the contract allows is not theirs.
-- Assumes nothing.
use mathlib.Core.List.{List, [], ◌∷◌}
use mathlib.Core.Path.{◌≡◌, ap}
use Prim.Native.Nat.{ℕ}
use lib.ListN.{get_or}
use Rattle.acceptance.specs.Lasso.{Word}
use Rattle.records.specs.declared.Refusal.{Refusal}
use Rattle.search.specs.declared.Counts.{Counts}
use Rattle.search.specs.declared.Lengths.{Lengths}
use Rattle.search.specs.Ending.{Buffers}
use Rattle.inclusion.specs.declared.Answer.{Answer}
use Rattle.inclusion.specs.declared.Answer.TheVariants as says
use Rattle.inclusion.specs.Answers.{counted}
use Rattle.inclusion.specs.Decided.{counts_in, Decided}
use Rattle.promises.specs.Samples.{lent, Reply, decides, told, pair, reply_to, included, shown, I, ALL, OFTEN, ONCE, TURNS, LEAVES, PAIRED, SETTLED, AWAY}
use Rattle.promises.proofs.Samples.{samples_hold}

-- a result that the contract allows for two files, with the program's room and buffers
abbrev Allowed : (model rule : List ℕ) → Answer → Buffers → Type 0
Allowed model rule r new = Decided model rule 4096 2048 lent r new

module _ {model rule : List ℕ} {r : Answer} {new : Buffers} (d : Allowed model rule r new) where
  replies : {reply : Reply} → reply_to (pair model rule 4096 2048) ≡ reply → told r new ≡ reply
  replies e = rw (d.answer, d.buffers) e

  -- where a lasso is shown, the answer is neither included nor a refusal, and where the rule includes the model, none is shown
  not_included : {c : Counts} {l : Lengths} {u v : Word} → reply_to (pair model rule 4096 2048) ≡ decides (says.NotIncluded c l) u v → (c' : Counts) → r ≡ says.Included c' → ⊥
  not_included e c' q = let f = replies e in cc

  not_refused : {c : Counts} {l : Lengths} {u v : Word} → reply_to (pair model rule 4096 2048) ≡ decides (says.NotIncluded c l) u v → (refusal : Refusal) (c' : Counts) → r ≡ says.Refused refusal c' → ⊥
  not_refused e refusal c' q = let f = replies e in cc

  not_shown : {c : Counts} → reply_to (pair model rule 4096 2048) ≡ included c → (c' : Counts) (l : Lengths) → r ≡ says.NotIncluded c' l → ⊥
  not_shown e c' l q = let f = replies e in cc

-- the reply at an index of a list
at : ℕ → List Reply → Reply
at i replies = get_or replies i (included (counted 0 0 0 0))

M1 : reply_to (pair ALL OFTEN 4096 2048) ≡ shown (counted 2 2 2 2) [] (1 ∷ [])
unfolding at
M1 = ap (at 0) samples_hold.0

M5 : reply_to (pair ONCE (I 0) 4096 2048) ≡ shown (counted 2 1 1 1) [] (0 ∷ [])
unfolding at
M5 = ap (at 4) samples_hold.0

paired : reply_to (pair PAIRED SETTLED 4096 2048) ≡ shown (counted 2 3 3 3) [] (1 ∷ 0 ∷ [])
unfolding at
paired = ap (at 0) samples_hold.1

away : reply_to (pair AWAY (I 0) 4096 2048) ≡ shown (counted 2 2 1 1) (1 ∷ []) (1 ∷ [])
unfolding at
away = ap (at 1) samples_hold.1

turns : reply_to (pair ONCE TURNS 4096 2048) ≡ included (counted 2 2 2 4)
unfolding at
turns = ap (at 2) samples_hold.1

leaves : reply_to (pair ONCE LEAVES 4096 2048) ≡ shown (counted 2 2 1 1) [] (0 ∷ [])
unfolding at
leaves = ap (at 3) samples_hold.1

module _ {r : Answer} {new : Buffers} where
  -- ---- the idle programs of "How tight the contracts are"

  -- one that refuses everything
  pub refuses_everything : Allowed ALL OFTEN r new → (refusal : Refusal) (c : Counts) → r ≡ says.Refused refusal c → ⊥
  refuses_everything d = not_refused d M1

  -- one that always says included
  pub always_included : Allowed ALL OFTEN r new → (c : Counts) → r ≡ says.Included c → ⊥
  always_included d = not_included d M1

  -- one that does no work at all, whatever it says
  pub no_work : Allowed ALL OFTEN r new → new ≡ lent → ⊥
  no_work d e = let f = replies d M1 in cc

  -- one that always shows the same lasso
  pub same_lasso : {r' : Answer} {new' : Buffers} {u v : Word} → Allowed ALL OFTEN r new → Allowed ONCE (I 0) r' new' → told r new ≡ decides r u v → told r' new' ≡ decides r' u v → ⊥
  same_lasso d d' e e' = let f = replies d M1 in let f' = replies d' M5 in cc

  -- one that builds the first period table and reuses it for each later w: it finds no lasso
  pub first_table_reused : Allowed PAIRED SETTLED r new → (c : Counts) → r ≡ says.Included c → ⊥
  first_table_reused d = not_included d paired

  -- one that invents u, w, p or t
  pub invents_counts : Allowed ALL OFTEN r new → (counts_in r ≡ counted 2 2 2 2 → ⊥) → ⊥
  invents_counts d invented = let f = replies d M1 in invented (let same : r ≡ says.NotIncluded (counted 2 2 2 2) (record { stem = 0; period = 1 }) = cc in ap counts_in same)

  -- ---- the five shortcuts of "Shortcuts that give false verdicts"; the first is the table that is reused

  -- W by smallest targets
  pub smallest_kept : Allowed PAIRED SETTLED r new → (c : Counts) → r ≡ says.Included c → ⊥
  smallest_kept = first_table_reused

  -- an entry at another state of A covers
  pub another_state : Allowed AWAY (I 0) r new → (c : Counts) → r ≡ says.Included c → ⊥
  another_state d = not_included d away

  -- a loop after one period only; or any visit to an accepting state
  pub one_period : Allowed ONCE TURNS r new → (c : Counts) (l : Lengths) → r ≡ says.NotIncluded c l → ⊥
  one_period d = not_shown d turns

  pub any_visit : Allowed ONCE LEAVES r new → (c : Counts) → r ≡ says.Included c → ⊥
  any_visit d = not_included d leaves

  -- acceptance only where a period starts or ends: a period of two letters meets it in the middle
  pub ends_only : Allowed ONCE TURNS r new → (c : Counts) (l : Lengths) → r ≡ says.NotIncluded c l → ⊥
  ends_only = one_period
