-- The stored words: letters along the parents, which come before their children (document 01, "Room"), of the links or of the stems. Assumes nothing.
use Rattle.std.specs.Prelude.{Bool, true, false, cond, List, [], ◌∷◌, ◌++◌, ℕ, zero, suc, eqb, get_or}
use Rattle.bits.specs.Fields.{stem_letter, stem_parent, link_letter, link_parent}
use Rattle.acceptance.specs.Lasso.{Word}

-- where a word begins: the parent of a one-letter period, and the root of the stems
abbrev pub top_of : (links : Bool) → ℕ
top_of true = 65535
top_of false = 0

abbrev pub parent_of : (links : Bool) → ℕ → ℕ
parent_of true e = link_parent e
parent_of false e = stem_parent e

abbrev pub letter_of : (links : Bool) → ℕ → ℕ
letter_of true e = link_letter e
letter_of false e = stem_letter e

-- the letters from the entry at i up to the top; the number bounds the way
unfoldable pub chain : (links : Bool) → List ℕ → ℕ → ℕ → Word
chain links t zero i = []
chain links t (suc f) i = cond (eqb i (top_of links)) [] (chain links t f (parent_of links (get_or t i 0)) ++ (letter_of links (get_or t i 0) ∷ []))

-- the word of the entry at i
abbrev pub word_of : (links : Bool) → List ℕ → ℕ → Word
word_of links t i = chain links t (suc i) i

abbrev pub stem_word : List ℕ → ℕ → Word
stem_word t i = word_of false t i

abbrev pub period_word : List ℕ → ℕ → Word
period_word t i = word_of true t i
