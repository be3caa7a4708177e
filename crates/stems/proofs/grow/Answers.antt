-- `grow` meets its contract: the root offered, then the entries taken. Assumes nothing.
use mathlib.Core.Path.{refl}
use Rattle.stems.proofs.Rooted.{root_full, root_last}
use Rattle.stems.proofs.Loop.{held_full, held_all}
use borrow.Author.Rules.{rules}
use Rattle.stems.proofs.Flags.{marked_none}
use Rattle.stems.proofs.grow.Goals as goal

pub invariant_of-growing-clause-marked : goal.invariant_of-growing-clause-marked
invariant_of-growing-clause-marked c = marked_none c.args.largest

pub returns-in_err-offer : goal.returns-in_err-offer
returns-in_err-offer c =
    held_full (root_full _ _ c.root.ensures refl c.offer.ensures c.in_err-offer.was) (search rules) c.in_err-offer.was c.from_residual.ensures.0

pub returns-in_err-take_all : goal.returns-in_err-take_all
returns-in_err-take_all c =
    held_full (root_last _ _ c.root.ensures refl c.offer.ensures c.in_ok-offer.was c.take_all.ensures)
    (search rules) c.in_err-take_all.was c.from_residual-in_err-take_all.ensures.0

pub returns : goal.returns
returns c =
    held_all (root_last _ _ c.root.ensures refl c.offer.ensures c.in_ok-offer.was c.take_all.ensures) (search rules) c.in_ok-take_all.was
