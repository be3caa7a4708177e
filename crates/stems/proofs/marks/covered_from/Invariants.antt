use mathlib.Core.Path.{◌≡◌}
use Prim.Native.Nat.{ℕ, ◌+◌}
use Rattle.bits.specs.Bits.{set_of}
use Rattle.stems.specs.Stems.{target_covers}
use Rattle.stems.proofs.marks.covered_from.Given as goal

abbrev pub invariant-loop-j : goal.invariant-loop-j
invariant-loop-j l = l.out ≡ set_of (λ (i : ℕ). target_covers l.largest l.old (l.first + i)) l.j
