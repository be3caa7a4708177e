-- `offer` meets its contract: the candidate is covered and nothing changes, or it is appended. Assumes nothing.
use Rattle.std.proofs.Common.{refl}
use borrow.Author.Rules.{rules}
use Rattle.offering.proofs.Offered.{offered_covered, offered_new}
use Rattle.offering.proofs.Table.offer.Goals as goal

pub returns-then-covered : goal.returns-then-covered
returns-then-covered c = offered_covered c.requires _ c.covered.ensures.value c.covered.ensures.chained_after c.if-covered.true _ (search rules) refl refl refl refl

pub returns : goal.returns
returns c =
    offered_new c.requires _ c.covered.ensures.value c.covered.ensures.chained_after c.if-covered.false c.covered.auto.chains (search rules) c.append.ensures.count c.append.ensures.lent c.append.ensures.linked
