use Prim.Native.Nat.{◌/◌, ◌≤◌, ◌<◌}
use native.Mathlib.Omega.{arith}
use lib.ListN.{length}
use Rattle.model.specs.Limits.{node_width}
use Rattle.reach.proofs.Ends.{Ends, from-below, to_below}
use Rattle.forward.specs.Forward.{planned_count}
use Rattle.pathlimit.proofs.Pass.{root_below, count_room, pass_start, turn_stopped, turn_within, turn_ends, pass_next, pass_end}
use Rattle.pathlimit.proofs.count_from.Goals.{After-edge_from, After-planned_row-e, In-loop-i}
use Rattle.pathlimit.proofs.count_from.Goals as goal

-- the plan has an edge for a turn
turn : (k : In-loop-i) → k.loop-i.i < planned_count k.args.plan.now
turn k = omega (arith, k.loop-i-test.true, k.planned_count-i-end.ensures)

-- the ends of the edge of a turn are nodes
ends : (k : After-planned_row-e)
    → Ends k.args.nodes.now k.args.edges.now k.planned_row-e.result
ends k =
    rw k.planned_row-e.ensures
    (turn_ends k.args.nodes.now k.args.edges.now k.args.plan.now k.args.root k.requires k.loop-i.invariant (turn (goal.at.edge_from-requires k).In-loop-i))

-- so the node that it leaves is an index of the counts
from-within : (k : After-edge_from)
    → let n = length k.args.nodes.now / node_width in (k.edge_from.result < n) × (n ≤ length k.loop-i.counts)
from-within k =
    (from-below (ends (goal.at.offset_bounds-counts-edge_from k).After-planned_row-e) k.edge_from.result k.edge_from.ensures, k.loop-i.invariant.swept.size)

pub start_counts-requires : goal.start_counts-requires
start_counts-requires c =
    let ns = c.args.nodes.now in
    let es = c.args.edges.now in
    let plan = c.args.plan.now in
    (root_below ns es plan c.args.root c.requires, count_room ns es plan c.args.root c.requires)

pub loop-i-init : goal.loop-i-init
loop-i-init c =
    rw c.start_counts.ensures (pass_start c.args.nodes.now c.args.edges.now c.args.plan.now c.args.root c.requires)

pub planned_row-e-requires : goal.planned_row-e-requires
planned_row-e-requires c =
    turn_within c.args.nodes.now c.args.edges.now c.args.plan.now c.args.root c.requires c.loop-i.invariant (turn (goal.at.planned_row-e-requires c).In-loop-i)

pub edge_from-requires : goal.edge_from-requires
edge_from-requires c = let e = ends (goal.at.edge_from-requires c).After-planned_row-e in (e.room, e.from_low)

pub offset_bounds-counts-edge_from : goal.offset_bounds-counts-edge_from
offset_bounds-counts-edge_from c = omega (arith, from-within c)

pub bounds-counts-edge_from : goal.bounds-counts-edge_from
bounds-counts-edge_from c = omega (arith, from-within (goal.at.bounds-counts-edge_from c).After-edge_from)

pub edge_to-requires : goal.edge_to-requires
edge_to-requires c = let e = ends (goal.at.edge_to-requires c).After-planned_row-e in (e.room, e.to_low)

pub add_paths-requires : goal.add_paths-requires
add_paths-requires c =
    let from = from-within (goal.at.add_paths-requires c).After-edge_from in
    let to = to_below (ends (goal.at.add_paths-requires c).After-planned_row-e) c.edge_to.result c.edge_to.ensures in
    let small = turn_stopped c.args.nodes.now c.args.edges.now c.args.plan.now c.args.root c.requires c.loop-i.invariant in
    (omega (arith, from, to), small c.edge_to.result to, small c.edge_from.result from.0)

pub loop-i-preserved : goal.loop-i-preserved
loop-i-preserved c =
    rw c.add_paths.ensures
    (pass_next c.args.nodes.now c.args.edges.now c.args.plan.now c.args.root c.requires c.loop-i.invariant (turn (goal.at.loop-i-preserved c).In-loop-i)
    c.edge_from.result c.edge_to.result (rw c.planned_row-e.ensures at c.edge_from.ensures) (rw c.planned_row-e.ensures at c.edge_to.ensures))

pub returns : goal.returns
returns c =
    pass_end c.args.nodes.now c.args.edges.now c.args.plan.now c.args.root c.requires c.loop-i.invariant
    (omega (arith, c.loop-i-test.false, c.planned_count-i-end.ensures))
