-- The reader refuses, or the check goes by the tables that it read.
use Rattle.std.proofs.lemmas.Result.{err_from_is_err_and}
use Rattle.textcheck.proofs.Answers.{given_tables, read-within, read_gives, read-refused}
use Rattle.textcheck.proofs.check_map.Goals as goal

pub check_front-requires : goal.check_front-requires
check_front-requires c = read-within (given_tables c.args.text.now _ _ c.read_map.result c.read_map.ensures c.in_ok-sizes.was)

pub returns-in_err-sizes : goal.returns-in_err-sizes
returns-in_err-sizes c =
    let p = err_from_is_err_and c.from_residual.result c.from_residual.ensures.1 in
    rw (p.1, p.2) (read-refused c.args.text.now c.args.report.now c.in_err-sizes.ensures)

pub returns : goal.returns
returns c = read_gives (given_tables c.args.text.now _ _ c.read_map.result c.read_map.ensures c.in_ok-sizes.was) c.check_front.ensures
