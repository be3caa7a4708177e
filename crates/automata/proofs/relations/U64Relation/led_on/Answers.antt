-- `Relation::led_on` of eight states meets its contract. Assumes nothing.
use Rattle.bits.specs.Bits.{pack}
use Rattle.bits.specs.Pairs.{pairs}
use Rattle.automata.proofs.Rows.{led_on_lem}
use Rattle.automata.proofs.relations.U64Relation.led_on.Goals as goal

pub returns : goal.returns
unfolding pairs pack
returns c = led_on_lem 8 c.args.c c.args.p c.args.y c.requires c.ranges.y.fits c.args.self c.ranges.self.fits
