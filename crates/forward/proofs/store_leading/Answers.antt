use mathlib.Core.Path.{◌≡◌, ◌∙◌}
use Prim.Native.Nat.{suc, ◌+◌, ◌-◌, ◌/◌, ◌≤◌, ◌<◌}
use native.Mathlib.Omega.{arith}
use lib.ListN.{length, get_or}
use Rattle.model.specs.Limits.{edge_width, max_edges}
use Rattle.reach.proofs.Ends.{Ends}
use Rattle.forward.specs.Forward.{plan_room}
use Rattle.forward.proofs.Stored.{order-within, order-ends, order-marked, Storing, storing-at, storing-long, store_start, store_few, store_marked, store_over, store_end}
use Rattle.forward.proofs.store_leading.Goals.{After-edge_to-to, In-loop-i}
use Rattle.forward.proofs.store_leading.Goals as goal

-- the order has a row for a turn
turn-row : (k : In-loop-i) → k.loop-i.i - 1 < length k.args.edges.now / edge_width
turn-row k = omega (arith, k.loop-i-test.true, k.loop-i.invariant.within)

-- the ends of its edge are nodes
turn_ends : (k : In-loop-i)
    → Ends k.requires.backward_rows.nodes k.args.edges.now (get_or k.args.order.now (k.loop-i.i - 1) 0)
turn_ends k = order-ends k.requires.backward_rows (k.loop-i.i - 1) (turn-row k)

-- the node that it enters has a mark
turn-marked : (k : After-edge_to-to) → k.edge_to-to.result < length k.args.marks.now
turn-marked k =
    order-marked k.requires.backward_rows (k.loop-i.i - 1) (turn-row (goal.at.After-edge_to-to k).In-loop-i) k.edge_to-to.result k.edge_to-to.ensures

-- no more rows lead than were passed, and the plan has room for all
turn-place : (k : After-edge_to-to)
    → let l = k.loop-i in
    (l.leading + l.i ≤ max_edges) × (length l.plan ≡ plan_room)
turn-place k =
    let few = store_few k.args.edges.now k.args.order.now k.args.marks.now k.requires.backward_rows k.loop-i.invariant in (
      omega (arith, few, k.requires.backward_rows.tables.edges.few),
      storing-long k.args.edges.now k.args.order.now k.args.marks.now k.loop-i.invariant ∙ k.requires.plan_len,
    )

-- the invariant, with the row of the turn as the one before
turn-state : (k : After-edge_to-to)
    → Storing k.args.edges.now k.args.order.now k.args.marks.now k.args.plan.now k.loop-i.plan k.loop-i.leading (suc (k.loop-i.i - 1))
turn-state k =
    storing-at k.args.edges.now k.args.order.now k.args.marks.now (suc (k.loop-i.i - 1)) (omega (arith, k.loop-i-test.true)) k.loop-i.invariant

pub loop-i-init : goal.loop-i-init
loop-i-init c = store_start c.args.edges.now c.args.order.now c.args.marks.now c.requires.backward_rows c.args.plan.now

pub bounds-order-i : goal.bounds-order-i
bounds-order-i c = order-within c.requires.backward_rows (c.loop-i.i - 1) (turn-row (goal.at.bounds-order-i c).In-loop-i)

pub edge_to-to-requires : goal.edge_to-to-requires
edge_to-to-requires c = let e = turn_ends (goal.at.edge_to-to-requires c).In-loop-i in (e.room, e.to_low)

pub bounds-marks-to : goal.bounds-marks-to
bounds-marks-to c = omega (arith, turn-marked (goal.at.bounds-marks-to c).After-edge_to-to)

pub offset_bounds-plan-leading : goal.offset_bounds-plan-leading
offset_bounds-plan-leading c = omega (arith, turn-place (goal.at.offset_bounds-plan-leading c).After-edge_to-to)

pub bounds-plan-leading : goal.bounds-plan-leading
bounds-plan-leading c = omega (arith, turn-place (goal.at.bounds-plan-leading c).After-edge_to-to)

pub overflow_add-leading : goal.overflow_add-leading
overflow_add-leading c = omega (arith, turn-place (goal.at.overflow_add-leading c).After-edge_to-to)

pub loop-i-preserved-then-marks-to : goal.loop-i-preserved-then-marks-to
loop-i-preserved-then-marks-to c =
    store_marked c.args.edges.now c.args.order.now c.args.marks.now c.requires.backward_rows (turn-state (goal.at.loop-i-preserved-then-marks-to c).After-edge_to-to) c.edge_to-to.result c.edge_to-to.ensures
    c.if-marks-to.true

pub loop-i-preserved : goal.loop-i-preserved
loop-i-preserved c =
    store_over c.args.edges.now c.args.order.now c.args.marks.now c.requires.backward_rows (turn-state (goal.at.loop-i-preserved c).After-edge_to-to) c.edge_to-to.result c.edge_to-to.ensures
    c.if-marks-to.false

pub returns : goal.returns
returns c =
    store_end c.args.edges.now c.args.order.now c.args.marks.now
    (storing-at c.args.edges.now c.args.order.now c.args.marks.now 0 (omega (arith, c.loop-i-test.false)) c.loop-i.invariant)
