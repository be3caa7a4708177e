-- `tables::as_rows` meets its contract. Assumes nothing.
use borrow.Author.Rules.{rules}
use Rattle.automata.proofs.Listed.{short, row_listed}
use Rattle.automata.proofs.tables.as_rows.Goals as goal

pub returns : goal.returns
returns c = row_listed 16 c.args.sets (short _ (search rules))
