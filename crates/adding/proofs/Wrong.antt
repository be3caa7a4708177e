-- Wrong answers that the contracts of `record_at`, `add` and `Reason::number` rule out. Assumes nothing.
use mathlib.Core.List.{List, [], ◌∷◌}
use mathlib.Core.Path.{◌≡◌}
use Rattle.std.specs.Prelude.{Result, Ok, Err}
use Prim.Native.Nat.{ℕ, suc}
use native.Mathlib.Omega.{arith}
use contract.Lifetimes.{Lfts}
use denote.Ref.{MutBor}
use Rattle.bits.proofs.Refuses.{Refuses, lent}
use Rattle.adding.specs.declared.Draft.{Draft}
use Rattle.adding.specs.declared.Record.{Record}
use Rattle.adding.specs.declared.reason.Reason.{Reason}
use Rattle.adding.specs.declared.reason.Reason.TheVariants.{PastLimit, Other}
use Rattle.adding.specs.Reason.{number}
use Rattle.adding.specs.Steps.{lone_state, record_of, step_by}
use Rattle.adding.proofs.record_at.Reads as RecordAt
use Rattle.adding.proofs.add.Reads as Add
use Rattle.adding.proofs.reason.Reason.number.Reads as Number
use Rattle.adding.proofs.Numbers.{some_number}

-- 4 for an I whose third byte is not 0, which 3 comes before
pub four_first : (κs : Lfts 1) → Refuses RecordAt.Post {k = κs} (lent (0x49 ∷ 16 ∷ 1 ∷ 0 ∷ []), (0, (16, _))) (Err PastLimit)
unfolding record_of lone_state
four_first κs x p = cc

module _ (κs : Lfts 1) (table : MutBor (List (List ℕ))) (draft next : Draft) (reason : Reason) (said : Result Record Reason) where
  -- a refusal lost: reading goes on
  pub number_lost : step_by table.now draft said ≡ Err reason → Refuses Add.Post {k = κs} (table, (draft, (said, _))) (Ok next)
  number_lost e x p = let f = p.0 in cc

  -- what goes on told as a refusal
  pub on_refused : step_by table.now draft said ≡ Ok next → Refuses Add.Post {k = κs} (table, (draft, (said, _))) (Err reason)
  on_refused e x p = let f = p.0 in cc

-- a refusal of document 01 told by a verdict's number
pub zero_told : (reason : Reason) → ((k : ℕ) → reason ≡ Other k → ⊥) → Refuses Number.Post (reason, _) 0
zero_told reason known x p = omega (arith, p, some_number reason known)

-- a caller's number lost
pub callers_lost : (k : ℕ) → Refuses Number.Post (Other (suc k), _) 0
callers_lost k x p = omega (arith, p)

-- a refusal told by the next one's number
pub next_number : (reason : Reason) → Refuses Number.Post (reason, _) (suc (number reason))
next_number reason x p = omega (arith, p)
