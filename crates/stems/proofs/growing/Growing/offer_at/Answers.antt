-- `offer_at` meets its contract: one candidate, or none. Assumes nothing.
use mathlib.Core.Path.{sym, ◌∙◌}
use Rattle.stems.proofs.Loop.{kept_none}
use Rattle.stems.proofs.Candidates.{state_some, state_none}
use Rattle.stems.proofs.growing.Growing.offer_at.Goals as goal

pub returns-then-has : goal.returns-then-has
returns-then-has c = rw (state_some c.args.by c.args.q (sym (rw c.from.ensures at c.has.ensures) ∙ c.if-has.true)) (rw c.stem_entry-entry.ensures at c.offer.ensures)

pub returns : goal.returns
returns c = rw (state_none c.args.by c.args.q (sym (rw c.from.ensures at c.has.ensures) ∙ c.if-has.false)) (kept_none _)
