-- `new` meets its contract: what is filled is the sixteen beginnings. Assumes nothing.
use Rattle.std.proofs.Common.{◌∙◌, refl, arith, ◌≡◌, length}
use lib.ListN.{length-take, get_or-append, take}
use Rattle.offering.proofs.Table.new.Goals as goal

pub returns-clause-cleared : goal.returns-clause-cleared
returns-clause-cleared c =
    let long : length (take 16 c.args.chains.now) ≡ 16 = simp length-take (omega arith) in
    record { none = λ q h. get_or-append c.fill.new.self _ 0 q (omega (arith, c.fill.ensures.len)) ∙ c.fill.ensures.clones q 0 (omega arith) refl }
