-- `decide` meets its contract: it stops where a file or what is lent is refused, and else makes the walk. Assumes nothing.
use Rattle.inclusion.proofs.Loaded.{stopped_right, prepared, walked_right}
use Rattle.inclusion.proofs.decide.Goals as goal

pub walk-ending-requires : goal.walk-ending-requires
walk-ending-requires c = prepared c.in-Ok.ensures

pub returns-in-Ok-clause-decided : goal.returns-in-Ok-clause-decided
returns-in-Ok-clause-decided c = walked_right c.in-Ok.ensures c.walk-ending.ensures.concluded c.answer_to.ensures

pub returns-in-Err-clause-decided : goal.returns-in-Err-clause-decided
returns-in-Err-clause-decided c = stopped_right c.in-Err.ensures
