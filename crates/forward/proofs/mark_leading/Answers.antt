use mathlib.Core.Path.{sym}
use Prim.Native.Nat.{◌/◌, ◌<◌}
use native.Mathlib.Omega.{arith}
use lib.ListN.{length, get_or, take}
use Rattle.model.specs.Limits.{edge_width}
use Rattle.reach.proofs.Ends.{Ends}
use Rattle.reach.proofs.Turns.{rows_length, turn_ends}
use Rattle.forward.proofs.Leading.{pass_start, ends-within, pass_marked, pass_over, pass_end}
use Rattle.forward.proofs.mark_leading.Goals.{After-edge_to-to, In-loop-e, then-marks-to, else-marks-to}
use Rattle.forward.proofs.mark_leading.Goals as goal

-- the ends of the edge of a turn are nodes
ends : (k : In-loop-e)
    → Ends k.loop-e.invariant.nodes k.args.edges.now (get_or (take (length k.args.edges.now / edge_width) k.args.order.now) k.loop-e.e-index 0)
ends k = turn_ends k.loop-e.invariant.nodes k.args.edges.now k.args.order.now k.loop-e.invariant.at k.loop-e-test.true

-- both are indices of the marks
within : (k : After-edge_to-to)
    → let n = length k.loop-e.marks in (k.edge_from-from.result < n) × (k.edge_to-to.result < n)
within k =
    ends-within k.args.edges.now k.args.order.now k.loop-e.invariant k.edge_from-from.result k.edge_to-to.result
    k.loop-e-test.true k.edge_from-from.ensures k.edge_to-to.ensures

pub slice_bounds-e-items-end : goal.slice_bounds-e-items-end
slice_bounds-e-items-end c = sym (rows_length c.requires.nodes c.args.edges.now c.args.order.now c.requires.tables c.requires.backward)

pub loop-e-init : goal.loop-e-init
loop-e-init c = pass_start c.args.edges.now c.args.order.now c.requires

pub edge_from-from-requires : goal.edge_from-from-requires
edge_from-from-requires c = let e = ends (goal.at.edge_from-from-requires c).In-loop-e in (e.room, e.from_low)

pub edge_to-to-requires : goal.edge_to-to-requires
edge_to-to-requires c = let e = ends (goal.at.edge_to-to-requires c).In-loop-e in (e.room, e.to_low)

pub bounds-marks-to : goal.bounds-marks-to
bounds-marks-to c = omega (arith, within (goal.at.bounds-marks-to c).After-edge_to-to)

pub bounds-marks-from : goal.bounds-marks-from
bounds-marks-from c = omega (arith, within (goal.at.bounds-marks-from c).After-edge_to-to)

pub loop-e-preserved : goal.loop-e-preserved
loop-e-preserved c =
    let es = c.args.edges.now in
    let order = c.args.order.now in
    let p = c.loop-e.invariant in
    let from = c.edge_from-from in
    let to = c.edge_to-to in
    elim c.if-marks-to.branch [
      | then-marks-to w ↦ rw w.marks-is (pass_marked es order p from.result to.result c.loop-e-test.true from.ensures to.ensures w.if-marks-to.true)
      | else-marks-to w ↦ rw w.marks-is (pass_over es order p from.result to.result c.loop-e-test.true from.ensures to.ensures w.if-marks-to.false)
    ]

pub returns : goal.returns
returns c = pass_end c.args.edges.now c.args.order.now c.loop-e.invariant c.loop-e-test.false
