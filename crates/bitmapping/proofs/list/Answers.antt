-- What is asked for is refused, or it is listed and the numbers are copied where they fit.
use Rattle.std.specs.Prelude.{Ok}
use Rattle.std.proofs.lemmas.Result.{err_from_is_err_and}
use Prim.Native.Nat.{◌*◌}
use native.Mathlib.Omega.{arith}
use mir.Facts.{to_z-of_z}
use Rattle.model.specs.Limits.{record_width}
use Rattle.asked.specs.Asking.{ListedAsked}
use Rattle.asked.proofs.Listed.{refused-listed, given_asked, given_count, given_numbers, given_room}
use Rattle.bitmapping.proofs.Copying.{spaced-front}
use Rattle.bitmapping.proofs.Promises.{list-refused, list-taken}
use Rattle.bitmapping.proofs.list.Goals.{In_ok-records}
use Rattle.bitmapping.proofs.list.Goals as goal

-- what listing gives
listed : (c : In_ok-records) → let a = c.args in ListedAsked a.kind a.nodes.now a.edges.now a.root a.leaf (Ok c.in_ok-records.records) c.list_asked.new.work
listed c = simp (to_z-of_z, c.ranges.root, c.ranges.leaf) at c.in_ok-records.ensures

pub overflow_mul-records : goal.overflow_mul-records
overflow_mul-records c = omega (arith, given_room _ _ _ _ _ (listed (goal.at.overflow_mul-records c).In_ok-records), c.list_asked.auto.work)

pub put_numbers-requires : goal.put_numbers-requires
put_numbers-requires c k h = omega (arith, h, given_room _ _ _ _ _ (listed (goal.at.put_numbers-requires c).In_ok-records))

pub returns-in_err-records : goal.returns-in_err-records
returns-in_err-records c =
    let p = err_from_is_err_and c.from_residual.result c.from_residual.ensures.1 in
    let e = simp (to_z-of_z, c.ranges.root, c.ranges.leaf) at c.in_err-records.ensures in
    rw (p.1, p.2) (list-refused _ _ _ _ _ _ c.in_err-records.field-0.0 (refused-listed _ _ _ _ _ e))

pub returns : goal.returns
returns c =
    let p = listed (goal.at.returns c).In_ok-records in
    list-taken _ _ _ _ _ _ (given_asked _ _ _ _ _ p) (given_count _ _ _ _ _ p)
    (rw (spaced-front _ (record_width * c.in_ok-records.records) (given_room _ _ _ _ _ p), given_numbers _ _ _ _ _ p) at c.put_numbers.ensures)
