-- `Automaton::idle` meets its contract. Assumes nothing.
use mathlib.Core.Path.{ap, ◌∙◌}
use Prim.Native.Nat.{ℕ}
use Rattle.bits.specs.Bits.{bit}
use Rattle.acceptance.specs.Contexts.{idle}
use Rattle.automata.specs.Loaded.{aut_of}
use Rattle.automata.proofs.Longer.{idle_below}
use Rattle.automata.proofs.Automaton.idle.Goals as goal

pub returns : goal.returns
unfolding aut_of
returns g c =
    let n = g.T.Pairs.Row.Set.WIDTH in
    c.idle.ensures ∙ ap (λ (a : ℕ). idle n (bit a)) c.below.ensures ∙ idle_below n c.args.self.now.head.accepting
