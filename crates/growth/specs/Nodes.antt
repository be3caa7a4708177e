-- Entries that carry their words, as the argument speaks of stems and periods: an entry has a state of A at which its word ends and a load that tells
-- of the word's work in B. It is extended by each letter to each next state, and it covers what is at the same state with a load that a test allows.
-- Assumes nothing.
--     advance c x       the load c of a word, for the word longer by x
use Rattle.std.specs.Prelude.{Bool, ◌&&◌, List, [], ◌∷◌, ◌++◌, ℕ, eqb}
use Rattle.acceptance.specs.Lasso.{Word, Aut}
use Rattle.growth.specs.Grow.{Outcome, table}
use Rattle.growth.specs.Steps.{steps}

pub record Node (L : Type 0) : Type 0 where
  pub state : ℕ
  pub load : L
  pub letter : ℕ
  pub parent : ℕ
  pub word : Word

module _ {L : Type 0} where
  -- the empty word at the state s
  unfoldable pub seed : L → ℕ → Node L
  seed empty s = record { state = s; load = empty; letter = 0; parent = 0; word = [] }

  -- the entry e at index i, longer by the letter x to the state q
  unfoldable pub child : (L → ℕ → L) → ℕ → Node L → ℕ → ℕ → Node L
  child advance i e x q = record { state = q; load = advance e.load x; letter = x; parent = i; word = e.word ++ (x ∷ []) }

  unfoldable pub children : (letters states : ℕ) → Aut → (L → ℕ → L) → ℕ → Node L → List (Node L)
  children letters states A advance i e = steps letters states (λ x q. A.step e.state x q) (child advance i e)

  -- at the same state, with a load that the test allows
  unfoldable pub covers_by : (L → L → Bool) → Node L → Node L → Bool
  covers_by test d c = eqb d.state c.state && test d.load c.load

  -- the table that grows from the first candidates
  abbrev pub node_table : (letters states : ℕ) → Aut → (L → ℕ → L) → (L → L → Bool) → ℕ → List (Node L) → Outcome (Node L)
  node_table letters states A advance test room first = table (covers_by test) (children letters states A advance) room first
