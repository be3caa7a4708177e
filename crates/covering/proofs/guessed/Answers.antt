-- `guessed` meets its contract. Assumes nothing.
use native.Mathlib.Omega.{arith}
use Rattle.automata.specs.Loaded.{of_pairs}
use Rattle.covering.proofs.Guesses.{asked}
use Rattle.covering.proofs.guessed.Goals as goal

pub returns : goal.returns
returns c =
    let args = c.args in
    rw c.from-other.ensures (asked args.links.now args.contexts.now args.next args.state (of_pairs args.missing) (omega arith) (omega arith) c.link_state.ensures)
