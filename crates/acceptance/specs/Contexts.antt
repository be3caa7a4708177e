-- What words do in an automaton B of n states, as sets of states: the target of a word (the paper's Tgt) and its context (Cxt), letter by letter.
-- Assumes nothing.
use Rattle.std.specs.Prelude.{◌≡◌, Bool, true, ◌&&◌, ◌||◌, [], ◌∷◌, ℕ, ◌*◌, ◌^◌, ◌<◌}
use Rattle.bits.specs.Bits.{bit, weight, set_of, any}
use Rattle.bits.specs.Sets.{SetIs, moved}
use Rattle.bits.specs.Pairs.{row, pairs}
use Rattle.acceptance.specs.Lasso.{Word, Aut, Reach, Through}

-- the states that paths of B meet are below n
pub record Small (n : ℕ) (B : Aut) : Type 0 where
  pub start_small : B.start < n
  pub step_small : (p x q : ℕ) → B.step p x q ≡ true → q < n

-- what a word leads to from each state: row q of `reach` has the states that it leads to from q, row q of `through` those through acceptance
pub record Context : Type 0 where
  pub reach : ℕ
  pub through : ℕ

-- the context of the empty word: each state leads to itself, through acceptance where it is accepting
unfoldable pub idle : ℕ → (ℕ → Bool) → Context
idle n final = record { reach = pairs n (λ q. 2 ^ q); through = pairs n (λ q. weight (final q) * 2 ^ q) }

module _ (n : ℕ) (B : Aut) where
  -- the set s moved by the letter x
  unfoldable pub moved_by : ℕ → ℕ → ℕ
  moved_by s x = moved n (λ p q. B.step p x q) s

  -- the same through acceptance, s being the states come to and t those come to through acceptance:
  -- it was met before, or the state that is entered accepts, or the transition is marked
  unfoldable pub passes_by : ℕ → ℕ → ℕ → ℕ → Bool
  passes_by s t x q = any (λ p. (bit t p || (bit s p && (B.final q || B.mark p x q))) && B.step p x q) n

  unfoldable pub through_by : ℕ → ℕ → ℕ → ℕ
  through_by s t x = set_of (passes_by s t x) n

  -- the states that a word leads to from those of s
  unfoldable pub moved_all : ℕ → Word → ℕ
  moved_all s [] = s
  moved_all s (x ∷ w) = moved_all (moved_by s x) w

  -- the states that a word leads to from B's initial state
  unfoldable pub target : Word → ℕ
  target w = moved_all (2 ^ B.start) w

  -- the context of a word longer by the letter x: moved row by row
  unfoldable pub longer : Context → ℕ → Context
  longer c x = record {
    reach = pairs n (λ q. moved_by (row n c.reach q) x);
    through = pairs n (λ q. through_by (row n c.reach q) (row n c.through q) x);
  }

  -- the context of a word that follows one with the context c
  unfoldable pub longer_all : Context → Word → Context
  longer_all c [] = c
  longer_all c (x ∷ w) = longer_all (longer c x) w

  -- the context of a word
  unfoldable pub context_of : Word → Context
  context_of w = longer_all (idle n B.final) w

  -- c is the context of the word w
  pub record Describes (c : Context) (w : Word) : Type 0 where
    pub reaches : (q : ℕ) → q < n → SetIs n (row n c.reach q) (Reach B q w)
    pub passes : (q : ℕ) → q < n → SetIs n (row n c.through q) (Through B q w)
