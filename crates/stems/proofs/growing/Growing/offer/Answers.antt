-- `offer` meets its contract: covered, without room, or appended and marked. Assumes nothing.
use mathlib.Core.Path.{refl}
use Rattle.stems.proofs.Loop.{marked_appended, kept_covered, kept_full, kept_appended}
use borrow.Author.Rules.{rules}
use native.Mathlib.Omega.{arith}
use lib.ListN.{length-set}
use Rattle.stems.proofs.growing.Growing.offer.Goals as goal

pub returns-then-look : goal.returns-then-look
returns-then-look c = kept_covered _ c.args.entry c.look.ensures c.if-look.true

pub returns-then-self : goal.returns-then-self
returns-then-self c = kept_full _ c.args.entry c.look.ensures c.if-look.false (search rules)

pub invariant_of-self-clause-marked : goal.invariant_of-self-clause-marked
invariant_of-self-clause-marked c = marked_appended c.args.self.now c.args.entry c.if-self.false c.mark.ensures

pub invariant_of-self-clause-lent : goal.invariant_of-self-clause-lent
invariant_of-self-clause-lent c = let g = c.args.self.now in omega (arith, g.lent, length-set g.table.now g.n c.args.entry)

pub returns : goal.returns
returns c = kept_appended _ c.args.entry c.look.ensures c.if-look.false (search rules) refl refl refl refl refl c.mark.ensures
