-- What an answer of the rounds says of the written walk: the finish of its run, and a lasso whose words can be read back. Assumes nothing.
use Rattle.std.specs.Prelude.{◌≡◌, true, List, ℕ, ◌≤◌, ◌<◌, Result, Ok, Err, length, take}
use Rattle.acceptance.specs.Lasso.{Aut}
use Rattle.rounds.specs.declared.Tally.{Tally}
use Rattle.rounds.specs.declared.Lasso.{Lasso}
use Rattle.rounds.specs.declared.Stop.{Stop}
use Rattle.rounds.specs.declared.Stop.TheVariants.{Lacking, Found}
use Rattle.walk.specs.Words.{stem_word, period_word}
use Rattle.walk.specs.Walk.{included, shown, periods_full, Finish, run}
use Rattle.spelling.specs.Written.{Backward}

-- the finish, read off the answer: the words are those of the stems u and of the period table in the first links
abbrev pub finish_of : (u links : List ℕ) → Result Tally Stop → Finish
finish_of u links (Ok c) = record { verdict = included; periods = c.p; tests = c.t }
finish_of u links (Err (Lacking c)) = record { verdict = periods_full; periods = c.p; tests = c.t }
finish_of u links (Err (Found c l)) = record { verdict = shown (stem_word u l.stem) (period_word (take l.size links) l.period); periods = c.p; tests = c.t }

-- the words of a lasso that was found can be read back: its indices are those of entries, and the links lead backward
pub record Legible (room : ℕ) (u links : List ℕ) (r : Result Tally Stop) : Type 0 where
  pub lasso : (c : Tally) (l : Lasso) → r ≡ Err (Found c l) → (l.stem < length u) × (l.period < l.size) × (l.size ≤ room) × Backward true (take l.size links)

-- what the rounds cs answer; p and t are the counts before them
pub record Finished (A B : Aut) (u : List ℕ) (room : ℕ) (cs : List (ℕ × ℕ)) (p t : ℕ) (r : Result Tally Stop) (links : List ℕ) : Type 0 where
  pub finish : run A B u room cs p t ≡ finish_of u links r
  pub legible : Legible room u links r
