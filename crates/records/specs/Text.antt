-- The three numbers of a refusal that the program prints. Assumes nothing.
use Rattle.std.specs.Prelude.{List, ℕ, ◌++◌, codes, decimal}
use Rattle.adding.specs.Reason.{number}
use Rattle.records.specs.declared.Refusal.{Refusal}

abbrev pub refusal_text : Refusal → List ℕ
refusal_text r = decimal (number r.reason) ++ codes " " ++ decimal r.which ++ codes " " ++ decimal r.place
