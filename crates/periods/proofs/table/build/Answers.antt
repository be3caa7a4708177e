-- `table::build` meets its contract. The loop's invariant: the candidates of the word and then the entries from i on give the whole table. Assumes nothing.
use native.Mathlib.Omega.{arith}
use borrow.Author.Rules.{rules}
use Rattle.periods.proofs.Candidates.{word_entry}
use Rattle.periods.proofs.Taking.{build_start, build_full, build_ready, build_end, build_next}
use Rattle.periods.proofs.table.build.Goals as goal

pub loop-table-init : goal.loop-table-init
loop-table-init c = (search rules, build_start _ _ _ c.requires.none c.requires.ready)

pub returns-in_err-expand : goal.returns-in_err-expand
returns-in_err-expand c = build_full _ _ _ _ c.loop-table.invariant.1 c.expand.ensures c.in_err-expand.was c.from_residual.ensures.0

pub returns-then-i-table : goal.returns-then-i-table
returns-then-i-table c = build_end _ _ _ _ c.loop-table.invariant.1 c.expand.ensures c.in_ok-expand.was c.if-i-table.true

pub word_at-word-requires : goal.word_at-word-requires
word_at-word-requires c = ((build_ready _ _ _ _ c.loop-table.invariant.1 c.expand.ensures c.in_ok-expand.was).roomy, c.if-i-table.false)

pub loop-table-preserved : goal.loop-table-preserved
loop-table-preserved c =
    let word = c.word_at-word.ensures in
    (omega arith, build_next _ _ _ _ c.loop-table.invariant.1 c.expand.ensures c.in_ok-expand.was c.if-i-table.false (word_entry _ _ _ word.0 word.1 word.2))
