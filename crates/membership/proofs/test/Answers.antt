-- `test` meets its contract. Assumes nothing.
use Rattle.std.proofs.lemmas.Result.{err_from_is_err_and}
use Rattle.membership.proofs.File.{bad_file_lem, good_file}
use Rattle.membership.proofs.test.Goals as goal

pub returns-in_err-model : goal.returns-in_err-model
returns-in_err-model c =
    let p = err_from_is_err_and c.from_residual.result c.from_residual.ensures.1 in
    rw (p.1, p.2) (bad_file_lem c.args.records.now c.read-file.ensures.answer c.in_err-model.ensures)

pub returns : goal.returns
returns c = good_file c.args.records.now c.read-file.ensures.answer c.in_ok-model.ensures c.read-file.ensures.table c.test_words.ensures
