-- `Context::idle` meets its contract. Assumes nothing.
use Rattle.automata.proofs.Longer.{idle_is}
use Rattle.automata.proofs.Context.idle.Goals as goal

pub returns : goal.returns
returns g c =
    let row = g.R.Row.Set in
    idle_is row.WIDTH (row.bits c.args.accepting) c.none.ensures c.with_itself-reach.ensures c.none-2.ensures c.met.ensures
