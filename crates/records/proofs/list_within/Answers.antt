-- As many records as there is room for, but no more than the longest list has.
use mathlib.Core.Path.{◌≡◌}
use Prim.Native.Nat.{◌*◌}
use native.Mathlib.Omega.{arith}
use lib.ListN.{length}
use mir.Facts.{to_z-of_z}
use Rattle.model.specs.Limits.{record_width, max_paths}
use Rattle.records.specs.Promises.{lent_numbers}
use Rattle.records.proofs.Promises.{lent-min, lent-within, front-listed}
use Rattle.records.proofs.list_within.Goals.{After-list_front-arg-1, After-min-records}
use Rattle.records.proofs.list_within.Goals as goal

-- three numbers a record are lent
lent : (c : After-min-records) → record_width * c.min-records.result ≡ lent_numbers c.args.room
lent c = rw c.min-records.ensures (lent-min c.args.room)

-- the work buffer is whole
whole : (c : After-list_front-arg-1) → length c.args.work.now ≡ record_width * max_paths
whole c = let told = c.list_front-arg-1.given in omega arith

pub overflow_mul-records : goal.overflow_mul-records
overflow_mul-records c = omega (arith, lent (goal.at.overflow_mul-records c).After-min-records, lent-within c.args.room)

pub list_front-requires : goal.list_front-requires
list_front-requires c = omega (arith, whole c, lent (goal.at.list_front-requires c).After-min-records, lent-within c.args.room)

pub returns : goal.returns
returns c =
    let told = simp (to_z-of_z, c.ranges.root, c.ranges.leaf, lent (goal.at.returns c).After-min-records) at c.list_front.ensures in
    front-listed _ _ _ _ _ _ _ _ _ (whole (goal.at.returns c).After-list_front-arg-1) told.0 told.1
