-- The line of counts that the programs print. Assumes nothing.
use Rattle.std.specs.Prelude.{List, ℕ, ◌++◌, codes, decimal}
use Rattle.search.specs.declared.Counts.{Counts}

abbrev pub counts_text : Counts → List ℕ
counts_text c = codes "U=" ++ decimal c.u ++ codes " W=" ++ decimal c.w ++ codes " P=" ++ decimal c.p ++ codes " T=" ++ decimal c.t
