-- `walk` meets its contract. Assumes nothing.
use Rattle.search.proofs.Clearing.{concluded}
use Rattle.search.proofs.walk.Goals as goal

pub returns-clause-concluded : goal.returns-clause-concluded
returns-clause-concluded c = concluded c.tell-ending.ensures.told c.clear.ensures.links c.clear.ensures.contexts
