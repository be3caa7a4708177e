-- `tables::packed` meets its contract. Assumes nothing.
use mathlib.Core.Path.{◌≡◌, ap, ◌∙◌}
use Prim.Native.Nat.{ℕ}
use native.Mathlib.Omega.{arith}
use borrow.Author.Rules.{rules}
use lib.ListN.{get_or}
use mir.Syntax.{w8}
use mir.Val.{Fits}
use Rattle.bits.specs.Bits.{pack}
use Rattle.bits.specs.Pairs.{row, pairs}
use Rattle.bits.proofs.Pairs.{row_pairs}
use Rattle.automata.proofs.tables.packed.Goals as goal

pub returns : goal.returns
unfolding pairs pack
returns c =
    let sets = c.args.sets in
    let small : (q : ℕ) → Fits w8 (get_or sets q 0) = λ q. search rules in
    let is : c.from_le_bytes.result ≡ pairs 8 (λ q. get_or sets q 0) = omega (arith, c.from_le_bytes.ensures) in
    λ p h. ap (λ (z : ℕ). row 8 z p) is ∙ row_pairs 8 (λ q. get_or sets q 0) p (λ q l. (small q).fits) h
