-- `round` meets its contract. Assumes nothing.
use mathlib.Core.Path.{sym, ◌∙◌}
use Rattle.rounds.proofs.States.{no_round, one_round}
use Rattle.rounds.proofs.Onward.{none_ran}
use Rattle.rounds.proofs.Afresh.{links_long, contexts_long, contexts_fit, twice_fits, few, full_ran, ended_ran}
use Rattle.rounds.proofs.round.Goals as goal

pub returns-then-stem_state-s-clause-finished : goal.returns-then-stem_state-s-clause-finished
returns-then-stem_state-s-clause-finished c =
    let args = c.args in
    none_ran _ _ _ _ (no_round args.on.model.now args.s args.entry c.requires.s_bound.1 (λ e. c.if-stem_state-s.true (c.stem_state.ensures ∙ e))) args.tally

pub returns-in_default-clause-finished : goal.returns-in_default-clause-finished
returns-in_default-clause-finished c =
    let args = c.args in
    rw (one_round args.on.model.now args.s args.entry c.requires.s_bound.1 (sym c.stem_state.ensures ∙ c.if-stem_state-s.false), ← c.stem_target-target.ensures)
    (full_ran _ _ _ _ _ args.on.stems.now args.tally.p args.tally.t c.in_default.ensures c.max.ensures)

pub returns-clause-finished : goal.returns-clause-finished
returns-clause-finished c =
    let args = c.args in
    rw (c.counted.ensures, one_round args.on.model.now args.s args.entry c.requires.s_bound.1 (sym c.stem_state.ensures ∙ c.if-stem_state-s.false), ← c.stem_target-target.ensures)
    (ended_ran _ _ _ _ _ c.in-Ok.ensures args.on.stems.now args.tally.p args.tally.t c.requires.ready.short c.first_rejected-tests.ensures)

pub slice_bounds-first_rejected-end : goal.slice_bounds-first_rejected-end
slice_bounds-first_rejected-end c = links_long _ _ _ _ _ c.in-Ok.ensures

pub slice_bounds-first_rejected-end-2 : goal.slice_bounds-first_rejected-end-2
slice_bounds-first_rejected-end-2 c = contexts_long _ _ _ _ _ c.in-Ok.ensures

pub overflow_mul-n : goal.overflow_mul-n
overflow_mul-n c = twice_fits _ _ _ _ _ c.in-Ok.ensures c.requires.ready.short

pub first_rejected-tests-requires : goal.first_rejected-tests-requires
first_rejected-tests-requires c = record {
  few = few _ _ _ _ _ c.in-Ok.ensures c.requires.ready c.grow-grown.auto.chains;
  links_in_bounds = contexts_fit _ _ _ _ _ c.in-Ok.ensures;
}
