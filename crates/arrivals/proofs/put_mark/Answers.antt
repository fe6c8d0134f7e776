-- The six numbers are stored one after another. The owner is below 2^63, and the others are an i64, so that each is stored as it is.
use native.Mathlib.Omega.{arith}
use borrow.Author.Rules.{rules}
use lib.ListN.{length-set}
use mir.Facts.{to_z-of_z, to_z_pos}
use mir.Val.{SFits}
use mir.Syntax.{w64}
use Rattle.references.specs.References.{reference_of}
use Rattle.arrivals.specs.State.{marked}
use Rattle.arrivals.proofs.Marks.{mark_stored}
use Rattle.arrivals.proofs.put_mark.Goals as goal

pub bounds-state-v-2 : goal.bounds-state-v-2
bounds-state-v-2 c = simp length-set (omega arith)

pub bounds-state-v-3 : goal.bounds-state-v-3
bounds-state-v-3 c = simp length-set (omega arith)

pub bounds-state-v-4 : goal.bounds-state-v-4
bounds-state-v-4 c = simp length-set (omega arith)

pub bounds-state-v-5 : goal.bounds-state-v-5
bounds-state-v-5 c = simp length-set (omega arith)

pub bounds-state-v-6 : goal.bounds-state-v-6
bounds-state-v-6 c = simp length-set (omega arith)

pub shape_of-state : goal.shape_of-state
shape_of-state c = simp length-set

pub returns : goal.returns
returns c =
    let origin : SFits w64 c.args.f.run.root.0 = search rules in
    let first : SFits w64 c.args.f.run.low.0 = search rules in
    let last : SFits w64 c.args.f.run.high.0 = search rules in
    mark_stored
    c.args.state.now
    c.args.v
    (marked (reference_of c.args.f) c.args.row c.args.count)
    (to_z_pos w64 (omega arith))
    (to_z-of_z origin)
    (to_z-of_z first)
    (to_z-of_z last)
    (to_z-of_z c.ranges.row)
    (to_z-of_z c.ranges.count)
