-- `Relation::is_none` of sixteen states meets its contract. Assumes nothing.
use mathlib.Core.Path.{sym, ap, ◌∙◌}
use lib.Pointwise.{bytes_decides}
use Rattle.bits.specs.Bits.{pack}
use Rattle.bits.specs.Pairs.{pairs}
use Rattle.automata.specs.Loaded.{listed}
use Rattle.automata.proofs.relations.ArrayU1616Relation.is_none.Goals as goal

pub returns : goal.returns
unfolding listed pairs pack
returns c = λ e. ap (listed 16) ((bytes_decides c.args.self _).0 (sym c.eq.ensures ∙ e))
