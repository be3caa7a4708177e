-- `Relation::row` of sixteen states meets its contract. Assumes nothing.
use mathlib.Core.Path.{sym}
use borrow.Author.Rules.{rules}
use Rattle.automata.proofs.Listed.{short, row_listed}
use Rattle.automata.proofs.relations.ArrayU1616Relation.row.Goals as goal

pub returns : goal.returns
returns c = sym (row_listed 16 c.args.self.now (short _ (search rules)) c.args.q c.requires)
