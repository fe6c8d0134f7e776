-- What list is lent is the front of the work buffer, and the rest stays behind it.
use mathlib.Core.Path.{ap, sym}
use mathlib.Core.List.{◌++◌}
use native.Mathlib.Omega.{arith}
use lib.ListN.{drop}
use lib.Seq.{length-take-le}
use mir.Facts.{to_z-of_z}
use Rattle.records.proofs.list_front.Goals as goal

pub slice_bounds-list-end-2 : goal.slice_bounds-list-end-2
slice_bounds-list-end-2 c = let a = c.args in sym (length-take-le a.numbers a.work.now (omega arith))

pub returns : goal.returns
returns c =
    let promise = c.list.ensures in (
      simp (to_z-of_z, c.ranges.root, c.ranges.leaf) at promise.answer,
      ap (λ front. front ++ drop c.args.numbers c.args.work.now) (simp (to_z-of_z, c.ranges.root, c.ranges.leaf) at promise.buffer),
    )
