-- What the words of a table can be read back by, and what a word that is written out leaves. Assumes nothing.
use Rattle.std.specs.Prelude.{◌≡◌, ◌⊎◌, Bool, false, List, ℕ, ◌≤◌, ◌<◌, eqb, length, get_or}
use Rattle.acceptance.specs.Lasso.{Word}
use Rattle.growth.specs.Lent.{over}
use Rattle.walk.specs.Words.{top_of, parent_of}

-- parents come before their children
pub record Backward (links : Bool) (t : List ℕ) : Type 0 where
  pub short : length t ≤ 65535
  pub parents : (i : ℕ) → i < length t → eqb i (top_of links) ≡ false → (parent_of links (get_or t i 0) ≡ top_of links) ⊎ (parent_of links (get_or t i 0) < i)

-- a word in the first bytes of an output, whose length is the answer
pub record Written (w : Word) (r : ℕ) (old new : List ℕ) : Type 0 where
  pub letters : r ≡ length w
  pub bytes : new ≡ over w old
