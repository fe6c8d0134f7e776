use mathlib.Core.Path.{refl, ap, ◌∙◌}
use Prim.Native.Nat.{◌<◌}
use native.Mathlib.Omega.{arith}
use Rattle.integers.proofs.Linear.{ints}
use Rattle.lists.proofs.Places.{get_d_in}
use Rattle.tables.specs.Tables.{edge_at}
use lib.ListN.{length, take, get_or, set}
use lib.Seq.{take_all}
use Rattle.depth.specs.Passes.{Within, stamped}
use Rattle.depth.proofs.Stamps.{stamped-more}
use Rattle.depth.proofs.stamp_starts.Goals.{After-edge_from}
use Rattle.depth.proofs.stamp_starts.Goals as goal

-- the start of the row that the turn reads is a place among the marks
start : (c : After-edge_from) → c.edge_from.result < length c.loop-e.marks
start c =
    let rows = take c.args.left c.args.rest.now in
    let e = get_or rows c.loop-e.e-index 0 in
    let w : Within (length c.args.marks.now) (edge_at c.args.edges.now e).from = c.requires.1.from e (get_d_in rows c.loop-e.e-index 0 c.loop-e-test.true) in
    omega (arith, ints, w.high, c.edge_from.ensures)

pub loop-e-init : goal.loop-e-init
unfolding stamped
loop-e-init c = refl

pub edge_from-requires : goal.edge_from-requires
edge_from-requires c =
    let rows = take c.args.left c.args.rest.now in
    let m = get_d_in rows c.loop-e.e-index 0 c.loop-e-test.true in
    (c.requires.1.there (get_or rows c.loop-e.e-index 0) m, (c.requires.1.from (get_or rows c.loop-e.e-index 0) m).low)

pub offset_bounds-marks-edge_from : goal.offset_bounds-marks-edge_from
offset_bounds-marks-edge_from c = omega (arith, start c)

pub bounds-marks-edge_from : goal.bounds-marks-edge_from
bounds-marks-edge_from c = start c

pub loop-e-preserved : goal.loop-e-preserved
loop-e-preserved c =
    let v = c.edge_from.result in
    ap (λ m. set m v c.args.stamp) c.loop-e.invariant
    ∙ stamped-more c.args.edges.now c.args.stamp (take c.args.left c.args.rest.now) c.args.marks.now c.loop-e.e-index v c.loop-e-test.true c.edge_from.ensures

pub returns : goal.returns
returns c =
    let rows = take c.args.left c.args.rest.now in
    c.loop-e.invariant ∙ ap (λ l. stamped c.args.edges.now c.args.stamp l c.args.marks.now) (take_all c.loop-e.e-index rows c.loop-e-test.false)
