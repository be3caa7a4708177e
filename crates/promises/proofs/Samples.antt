-- Document 01's samples M1 to M9 hold, and the pairs that tell its shortcuts from the walk, from the definitions alone. Assumes nothing.
use mathlib.Core.Path.{refl}
use Rattle.bits.specs.Bits.{digit, pack, bit, weight, set_of, any, all}
use Rattle.bits.specs.Sets.{subset, union, meets, moves_to, moved}
use Rattle.bits.specs.Pairs.{pair, row, pairs, contained_on}
use Rattle.acceptance.specs.Lasso.{opens}
use Rattle.acceptance.specs.Contexts.{idle, moved_by, passes_by, through_by, moved_all, target, longer, longer_all, context_of}
use Rattle.growth.specs.Grow.{append, offer, grow, table}
use Rattle.growth.specs.Steps.{gather, steps}
use Rattle.growth.specs.Tables.{contained}
use Rattle.growth.specs.Lent.{over}
use Rattle.automata.specs.Repeated.{via, paths_over, closure, turning, led_on, leading_into, repeated_by, repeated}
use Rattle.records.specs.Spelled.{is_record, among, started, start_in, named, states_in, spelled, accepting_in}
use Rattle.records.specs.Faults.{again, fault, first_fault, good_records, head_of, judged}
use Rattle.membership.specs.Checks.{checked}
use Rattle.membership.specs.Test.{verdict, tested_on, tested}
use Rattle.stems.specs.Stems.{target_covers, stem_covers, stem_root, stem_next, stem_table}
use Rattle.covering.specs.Entries.{period_covers, contexts_of}
use Rattle.periods.specs.Periods.{period_first, word_next, period_next, period_table}
use Rattle.walk.specs.Words.{chain}
use Rattle.walk.specs.Walk.{search, opening, round_at, rounds_at, rounds, fits, pairs_of, accepts, run, walk}
use Rattle.search.specs.Ending.{ending_by, stem_shown, period_shown, left_by}
use Rattle.loading.specs.Outset.{long_enough, outset_of}
use Rattle.inclusion.specs.Answers.{start_of, answer_to, decided, left}
use Rattle.promises.specs.Samples.{samples, pitfalls, Hold}

pub samples_hold : Hold samples × Hold pitfalls
unfolding digit pack bit weight set_of any all subset union meets moves_to moved pair row pairs contained_on opens idle moved_by passes_by through_by moved_all target longer longer_all context_of append offer grow table gather steps contained over via paths_over closure turning led_on leading_into repeated_by repeated is_record among started start_in named states_in spelled accepting_in again fault first_fault good_records head_of judged checked verdict tested_on tested target_covers stem_covers stem_root stem_next stem_table period_covers period_first word_next period_next period_table chain search opening round_at rounds_at rounds contexts_of fits pairs_of accepts run walk ending_by stem_shown period_shown left_by long_enough outset_of start_of answer_to decided left
samples_hold = (refl, refl)
