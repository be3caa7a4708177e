-- `grow` meets its contract: the table that grows from the one-letter words, by masks, is the written table. Assumes nothing.
use borrow.Author.Rules.{rules}
use Rattle.offering.proofs.Appended.{ready_none}
use Rattle.periods.proofs.Going.{leaves, answer_err, answer_ok}
use Rattle.periods.proofs.Candidates.{table_period}
use Rattle.periods.proofs.grow.Goals as goal

pub build-requires-clause-ready : goal.build-requires-clause-ready
build-requires-clause-ready c = search (rules, ready_none)

pub returns-in_err-build : goal.returns-in_err-build
returns-in_err-build c =
    leaves (table_period _ _ _ _ _ c.requires.state_bound.1 (search rules) (search rules) c.idle.ensures) c.build.ensures (answer_err _ c.in_err-build.was c.from_residual.ensures.0)
    (search rules) (search rules) (search rules) (search rules)

pub returns : goal.returns
returns c =
    leaves (table_period _ _ _ _ _ c.requires.state_bound.1 (search rules) (search rules) c.idle.ensures) c.build.ensures (answer_ok _ c.in_ok-build.was)
    (search rules) (search rules) (search rules) (search rules)
