-- The period tables that the walk without room comes to, and the first of them that needs more than P (document 01, the number 9). Assumes nothing.
use Rattle.std.specs.Prelude.{true, false, List, [], ◌∷◌, ℕ, ◌*◌, ◌^◌, ltb, length}
use Rattle.std.proofs.Math.Option.{Option, none, some}
use Rattle.acceptance.specs.Lasso.{Aut}
use Rattle.growth.specs.Grow.{ended, full}
use Rattle.periods.specs.Periods.{period_table}
use Rattle.walk.specs.Walk.{passed, rejected, search_round, rounds, unhindered}

-- a period table that a walk comes to: its entries, and the tests made before it
pub record Visit : Type 0 where
  pub size : ℕ
  pub before : ℕ

module _ (A B : Aut) where
  -- the tables of the rounds in order, up to that of the first rejected pair; t tests were made before
  unfoldable pub visits : (u : List ℕ) (room : ℕ) → List (ℕ × ℕ) → ℕ → List Visit
  visits u room [] t = []
  visits u room (c ∷ cs) t =
      elim (period_table A B c.0 c.1 room) [
        | full v ↦ record { size = length v; before = t } ∷ []
        | ended v ↦
            record { size = length v; before = t } ∷ elim (search_round u c v t) [ passed k ↦ visits u room cs k | rejected k i j ↦ [] ]
      ]

  -- those of the walk without room
  unfoldable pub visited : (a b : ℕ) → List Visit
  visited a b = visits (unhindered A B a b).smallest (a * 3 ^ (b * b)) (rounds A B (unhindered A B a b).largest) 0

-- the tests made before the first table that has more than P entries
unfoldable pub stops_at : ℕ → List Visit → Option ℕ
stops_at P [] = none
stops_at P (x ∷ xs) = elim (ltb P x.size) [ true ↦ some x.before | false ↦ stops_at P xs ]
