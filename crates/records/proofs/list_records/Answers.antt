-- What is asked for is refused, or the list that was made is stored.
use Rattle.std.proofs.lemmas.Result.{err_from_is_err_and}
use mir.Facts.{to_z-of_z}
use Rattle.records.proofs.Promises.{records_promise}
use Rattle.records.proofs.Putting.{put_none}
use Rattle.records.proofs.list_records.Goals as goal

pub put_records-requires : goal.put_records-requires
put_records-requires c = (c.in_ok-n.ensures.few, c.in_ok-n.ensures.fit)

pub returns-in_err-n : goal.returns-in_err-n
returns-in_err-n c =
    let p = err_from_is_err_and c.from_residual.result c.from_residual.ensures.1 in
    let told = simp (to_z-of_z, c.ranges.root, c.ranges.leaf) at c.in_err-n.ensures in
    rw (p.1, p.2) (rw (← put_none c.list_within.new.work c.args.out.now) at (records_promise _ _ _ _ _ _ _ told))

pub returns : goal.returns
returns c =
    let told = simp (to_z-of_z, c.ranges.root, c.ranges.leaf) at c.in_ok-n.ensures in
    rw c.put_records.ensures (records_promise _ _ _ _ _ _ _ told)
