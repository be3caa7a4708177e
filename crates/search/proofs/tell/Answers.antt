-- `tell` meets its contract. Assumes nothing.
use Rattle.std.proofs.Common.{arith}
use Rattle.std.proofs.lemmas.List.{take-append-drop}
use mathlib.Core.Bool.{true, false}
use mathlib.Core.Path.{sym}
use Rattle.search.proofs.Telling.{there, showable, part_kept, told_u, told_w, told_rounds}
use Rattle.search.proofs.tell.Goals as goal

pub returns-in_default-clause-told : goal.returns-in_default-clause-told
returns-in_default-clause-told c = told_u _ _ _ _ c.in_default.ensures c.stems_full.ensures

pub returns-in_default-second-clause-told : goal.returns-in_default-second-clause-told
returns-in_default-second-clause-told c = told_w _ _ _ _ c.in-Ok.ensures c.in_default-second.ensures c.stems_full-in_default-second.ensures

pub slice_bounds-u_table-end : goal.slice_bounds-u_table-end
slice_bounds-u_table-end c = let u = there _ _ _ false c.in-Ok.ensures in omega arith

pub slice_bounds-u_table-end-2 : goal.slice_bounds-u_table-end-2
slice_bounds-u_table-end-2 c = sym (there _ _ _ false c.in-Ok.ensures).count

pub slice_bounds-w_table-end : goal.slice_bounds-w_table-end
slice_bounds-w_table-end c = let w = there _ _ _ true c.in-Ok-second.ensures in omega arith

pub slice_bounds-w_table-end-2 : goal.slice_bounds-w_table-end-2
slice_bounds-w_table-end-2 c = sym (there _ _ _ true c.in-Ok-second.ensures).count

pub all-found-requires-clause-stems_len_bound : goal.all-found-requires-clause-stems_len_bound
all-found-requires-clause-stems_len_bound c =
    let u = there _ _ _ false c.in-Ok.ensures in
    let w = there _ _ _ true c.in-Ok-second.ensures in
    (omega arith, omega arith)

pub show-requires : goal.show-requires
show-requires c = showable c.requires c.in-Ok.ensures c.all-found.ensures.legible c.all-found.auto.links

pub returns-clause-told : goal.returns-clause-told
returns-clause-told c =
    let links = part_kept c.all-found.new.links c.requires.enough.links_fit c.all-found.auto.links in
    let contexts = part_kept c.all-found.new.contexts c.requires.enough.contexts_fit c.all-found.auto.contexts in
    simp take-append-drop (told_rounds _ _ _ _ c.in-Ok.ensures c.in-Ok-second.ensures links contexts c.all-found.ensures.finish c.show.ensures)
