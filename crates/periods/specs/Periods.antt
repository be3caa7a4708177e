-- The period table of an accepting state s of a model A and a set of rows of a rule B, as the lent tables hold it (document 01, "The walk", 3).
-- Assumes nothing.
use Rattle.std.specs.Prelude.{◌&&◌, List, ℕ}
use Rattle.bits.specs.Fields.{period_link, link_state}
use Rattle.acceptance.specs.Lasso.{Aut, opens}
use Rattle.acceptance.specs.Contexts.{Context, idle, longer}
use Rattle.growth.specs.Grow.{Outcome, table}
use Rattle.growth.specs.Steps.{steps}
use Rattle.covering.specs.Entries.{Period, period_covers}

module _ (A B : Aut) where
  -- the one-letter words from s, by the transitions at which a period may start (from an accepting s by any): letters rising, successors rising
  unfoldable pub period_first : ℕ → List Period
  period_first s =
      steps 16 16 (λ x q. A.step s x q && opens A s x q) (λ x q. record { link = period_link q x 65535; context = longer 8 B (idle 8 B.final) x })

  -- the candidates of a word at index i that leads to p with the context c: letters rising, then successor states rising
  unfoldable pub word_next : (p i : ℕ) → Context → List Period
  word_next p i c = steps 16 16 (λ x q. A.step p x q) (λ x q. record { link = period_link q x i; context = longer 8 B c x })

  -- those of the entry e at index i
  unfoldable pub period_next : ℕ → Period → List Period
  period_next i e = word_next (link_state e.link) i e.context

  -- the table of s, compared on the rows of a target, with room for so many entries
  unfoldable pub period_table : (s rows room : ℕ) → Outcome Period
  period_table s rows room = table (period_covers rows) period_next room (period_first s)
