use mathlib.Core.Path.{sym}
use Prim.Native.Nat.{◌/◌, ◌≤◌, ◌<◌}
use native.Mathlib.Omega.{arith}
use lib.ListN.{length, get_or, take}
use Rattle.model.specs.Limits.{node_width, edge_width}
use Rattle.tables.proofs.Rows.{nodes_length}
use Rattle.reach.proofs.Ends.{Ends, from-below, to_below}
use Rattle.reach.proofs.Turns.{rows_length, turn_ends}
use Rattle.reach.proofs.Pass.{leaf-below, pass_start, turn_stopped, pass_next, pass_end}
use Rattle.reach.proofs.count_paths.Goals.{After-edge_to, In-loop-e}
use Rattle.reach.proofs.count_paths.Goals as goal

-- the ends of the edge of a turn are nodes
ends : (k : In-loop-e)
    → Ends k.args.nodes.now k.args.edges.now (get_or (take (length k.args.edges.now / edge_width) k.args.order.now) k.loop-e.e-index 0)
ends k = turn_ends k.args.nodes.now k.args.edges.now k.args.order.now k.loop-e.invariant.at k.loop-e-test.true

-- so the node that it enters is an index of the counts
to-within : (k : After-edge_to)
    → let n = length k.args.nodes.now / node_width in (k.edge_to.result < n) × (n ≤ length k.loop-e.counts)
to-within k = (to_below (ends (goal.at.offset_bounds-counts-edge_to k).In-loop-e) k.edge_to.result k.edge_to.ensures, k.loop-e.invariant.swept.size)

pub start_counts-requires : goal.start_counts-requires
start_counts-requires c =
    let ns = c.args.nodes.now in
    (leaf-below ns c.args.edges.now c.args.leaf c.requires.block, omega (arith, c.requires.room, nodes_length ns))

pub slice_bounds-e-items-end : goal.slice_bounds-e-items-end
slice_bounds-e-items-end c = sym (rows_length c.args.nodes.now c.args.edges.now c.args.order.now c.requires.tables c.requires.backward)

pub loop-e-init : goal.loop-e-init
loop-e-init c =
    rw c.start_counts.ensures (pass_start c.args.nodes.now c.args.edges.now c.args.order.now c.args.leaf c.requires)

pub edge_to-requires : goal.edge_to-requires
edge_to-requires c = let e = ends (goal.at.edge_to-requires c).In-loop-e in (e.room, e.to_low)

pub offset_bounds-counts-edge_to : goal.offset_bounds-counts-edge_to
offset_bounds-counts-edge_to c = omega (arith, to-within c)

pub bounds-counts-edge_to : goal.bounds-counts-edge_to
bounds-counts-edge_to c = omega (arith, to-within (goal.at.bounds-counts-edge_to c).After-edge_to)

pub edge_from-requires : goal.edge_from-requires
edge_from-requires c = let e = ends (goal.at.edge_from-requires c).In-loop-e in (e.room, e.from_low)

pub add_paths-requires : goal.add_paths-requires
add_paths-requires c =
    let from = from-below (ends (goal.at.add_paths-requires c).In-loop-e) c.edge_from.result c.edge_from.ensures in
    let to = to-within (goal.at.add_paths-requires c).After-edge_to in
    let small = turn_stopped c.args.nodes.now c.args.edges.now c.args.order.now c.args.leaf c.loop-e.invariant in
    (omega (arith, from, to), small c.edge_from.result from, small c.edge_to.result to.0)

pub loop-e-preserved : goal.loop-e-preserved
loop-e-preserved c =
    rw c.add_paths.ensures
    (pass_next c.args.nodes.now c.args.edges.now c.args.order.now c.args.leaf c.loop-e.invariant
    c.edge_from.result c.edge_to.result c.loop-e-test.true c.edge_from.ensures c.edge_to.ensures)

pub returns : goal.returns
returns c =
    pass_end c.args.nodes.now c.args.edges.now c.args.order.now c.args.leaf c.loop-e.invariant c.args.counts.now c.loop-e-test.false
    c.start_counts.ensures
