-- `show` meets its contract. Assumes nothing.
use mathlib.Core.Path.{ap, ◌∙◌}
use Rattle.std.specs.Prelude.{Err}
use Rattle.search.proofs.show.Goals as goal

pub write-stem_letters-requires-clause-in_bounds : goal.write-stem_letters-requires-clause-in_bounds
write-stem_letters-requires-clause-in_bounds c =
    let stop = rw c.in-Err-Found.is at c.in-Err-Found.field-0-is in
    (c.requires.legible.lasso c.in-Err-Found.tally c.in-Err-Found.lasso (c.in-Err-Found.is ∙ ap Err stop)).0
