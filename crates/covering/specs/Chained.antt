-- The entries that the scan looks at, a chain of them for each state of A: enough to decide what is covered. Assumes nothing.
-- Place q below 16 of `chains` leads to the first entry of the chain of the state q, place 16 + i to the entry after entry i: there is one more than its
-- index, 0 at the end. What stands beyond the places of the entries does not matter.
use Rattle.std.specs.Prelude.{◌≡◌, Bool, cond, ◌||◌, List, [], ◌∷◌, map, ℕ, suc, ◌+◌, ◌≤◌, ◌<◌, eqb, length, get_or, set}
use Rattle.bits.specs.Fields.{link_state}
use Rattle.growth.specs.Grow.{covered}
use Rattle.covering.specs.Entries.{Period}

-- the entry at i
unfoldable pub entry_at : List Period → ℕ → Period
entry_at t i = get_or t i (record { link = 0; context = record { reach = 0; through = 0 } })

-- how often i is in a list
unfoldable pub times : ℕ → List ℕ → ℕ
times i [] = 0
times i (j ∷ run) = cond (eqb i j) 1 0 + times i run

-- from the place p a chain runs through these entries
pub data Runs (chains : List ℕ) : ℕ → List ℕ → Type 0 where
  ends : {p : ℕ} → get_or chains p 0 ≡ 0 → Runs chains p []
  goes : {p i : ℕ} {run : List ℕ} → get_or chains p 0 ≡ suc i → Runs chains (16 + i) run → Runs chains p (i ∷ run)

-- the chain of the state q: entries of t at q, none twice, that cover what t covers, where `gone` does not
pub record Chain (covers : Period → Period → Bool) (t gone : List Period) (chains : List ℕ) (q : ℕ) : Type 0 where
  pub run : List ℕ
  pub runs : Runs chains q run
  pub short : length run ≤ length t
  pub once : (i : ℕ) → times i run ≤ 1
  pub inside : (i : ℕ) → 1 ≤ times i run → (i < length t) × (link_state (entry_at t i).link ≡ q)
  pub enough : (d : Period) → link_state d.link ≡ q → (covered covers gone d || covered covers t d) ≡ (covered covers gone d || covered covers (map (entry_at t) run) d)

pub record Chained (covers : Period → Period → Bool) (t gone : List Period) (chains : List ℕ) : Type 0 where
  pub at : (q : ℕ) → q < 16 → Chain covers t gone chains q

-- no entry is chained
pub record Cleared (chains : List ℕ) : Type 0 where
  pub none : (q : ℕ) → q < 16 → get_or chains q 0 ≡ 0

-- the entry after the place p comes first in the chain of the state q
unfoldable pub to_front : List ℕ → (q p : ℕ) → List ℕ
to_front chains q p = set (set cut (get_or chains p 0 + 15) (get_or cut q 0)) q (get_or chains p 0)
  where
    cut : List ℕ
    cut = set chains p (get_or chains (get_or chains p 0 + 15) 0)
