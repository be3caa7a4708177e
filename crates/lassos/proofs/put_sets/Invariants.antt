use mathlib.Core.Path.{◌≡◌}
use mathlib.Core.Bool.{true}
use lib.Dec.{eqb}
use Prim.Native.Nat.{ℕ, ◌<◌}
use lib.ListN.{get_or}
use Rattle.bits.specs.Fields.{link_state}
use Rattle.automata.specs.Repeated.{repeated}
use Rattle.covering.specs.Entries.{context_in}
use Rattle.lassos.proofs.put_sets.Given as goal

abbrev pub invariant-loop-j : goal.invariant-loop-j
invariant-loop-j l = (k : ℕ) → k < l.j → eqb (link_state (get_or l.links k 0)) l.s ≡ true → get_or l.sets k 0 ≡ repeated 8 (context_in l.contexts k)
