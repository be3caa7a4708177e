-- `scan` meets its contract. Assumes nothing.
use mathlib.Core.Path.{refl, sym, ◌∙◌}
use native.Mathlib.Omega.{arith}
use Rattle.covering.proofs.Covering.{masked_start, masked_end, masked_hit, masked_less, masked_on}
use borrow.Author.Rules.{rules}
use Rattle.covering.proofs.scan.Goals as goal

pub loop-next-init : goal.loop-next-init
loop-next-init c = masked_start c.requires

pub returns-then-apart : goal.returns-then-apart
returns-then-apart c s = masked_hit s c.loop-next.invariant (omega arith) (sym c.apart.ensures ∙ c.if-apart.true) c.to_front.ensures

pub loop-next-smaller : goal.loop-next-smaller
loop-next-smaller c =
    masked_less c.requires c.loop-next.invariant (omega arith) (sym c.apart.ensures ∙ c.if-apart.false) (λ i. omega (arith, c.type_inv.contexts i)) refl
    c.pass-place.ensures.value c.pass-place.ensures.chains_after

pub loop-next-preserved : goal.loop-next-preserved
loop-next-preserved c =
    masked_on c.requires c.loop-next.invariant (omega arith) (sym c.apart.ensures ∙ c.if-apart.false) (λ i. omega (arith, c.type_inv.contexts i)) refl
    c.pass-place.ensures.value c.pass-place.ensures.chains_after (search rules)

pub returns : goal.returns
returns c s = masked_end s c.loop-next.invariant c.loop-next-test.false
