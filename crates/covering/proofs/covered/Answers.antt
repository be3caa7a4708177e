-- `covered` meets its contract. Assumes nothing.
use mathlib.Core.Path.{sym, ◌∙◌}
use native.Mathlib.Omega.{arith}
use Rattle.covering.proofs.Covering.{sought, told_beyond}
use Rattle.covering.proofs.Guesses.{guessed_covers}
use Rattle.covering.proofs.covered.Goals as goal

pub returns-then-guessed : goal.returns-then-guessed
returns-then-guessed c = record { value = sym (guessed_covers _ _ _ _ _ _ _ c.link_state-state.ensures c.lacking-missing.ensures (sym c.guessed.ensures ∙ c.if-guessed.true)); chained_after = c.requires.chained }

pub scan-requires : goal.scan-requires
scan-requires c =
    let args = c.args in
    sought args.rows args.n args.link args.links.now args.c c.requires.roomy c.requires.chained c.link_state-state.ensures c.lacking-missing.ensures c.having-present.ensures (omega arith) (omega arith)

pub returns-then-scan : goal.returns-then-scan
returns-then-scan c =
    let args = c.args in
    let s = sought args.rows args.n args.link args.links.now args.c c.requires.roomy c.requires.chained c.link_state-state.ensures c.lacking-missing.ensures c.having-present.ensures (omega arith) (omega arith) in
    let told = told_beyond s (c.scan.ensures s) c.if-scan.true _ _ (omega arith) in
    record { value = told.value; chained_after = told.chained_after }

pub returns : goal.returns
returns c =
    let args = c.args in
    let s = sought args.rows args.n args.link args.links.now args.c c.requires.roomy c.requires.chained c.link_state-state.ensures c.lacking-missing.ensures c.having-present.ensures (omega arith) (omega arith) in
    let told = told_beyond s (c.scan.ensures s) c.if-scan.false _ _ (omega arith) in
    record { value = told.value; chained_after = told.chained_after }
