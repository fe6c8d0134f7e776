use mathlib.Core.Path.{◌≡◌, ap, ◌∙◌}
use mathlib.Core.List.{◌++◌}
use borrow.Author.Rules.{rules}
use Prim.Native.Nat.{suc, ◌-◌, ◌/◌, ◌≤◌, ◌<◌}
use native.Mathlib.Omega.{arith}
use lib.ListN.{length, take, drop, replicate, length-take}
use Rattle.model.specs.Limits.{node_width, edge_width}
use Rattle.tables.proofs.Rows.{nodes_length}
use Rattle.reach.proofs.Ends.{Ends, edge_ends, from-below, to_below}
use Rattle.reach.proofs.Links.{Linking, linking_at, link_start, link_dead, link_live, link_end}
use Rattle.reach.proofs.link_edges.Goals.{After-edge_to-to, After-fill, In-loop-e}
use Rattle.reach.proofs.link_edges.Goals as goal

-- the edge of a turn has its ends among the nodes
turn_ends : (k : In-loop-e)
    → Ends k.args.nodes.now k.args.edges.now (k.loop-e.e - 1)
turn_ends k =
    let l = k.loop-e in
    edge_ends k.args.nodes.now k.args.edges.now l.invariant.tables (l.e - 1) (omega (arith, l.invariant.within))

-- both ends are indices of nodes, and the heads have a place for each node
turn_within : (k : After-edge_to-to)
    → let n = length k.args.nodes.now / node_width in
    (k.edge_from-from.result < n) × (k.edge_to-to.result < n) × (n ≤ length k.loop-e.head) × (n ≤ length k.args.counts.now)
turn_within k =
    let e = turn_ends (goal.at.offset_bounds-head-from k).In-loop-e in (
      from-below e k.edge_from-from.result k.edge_from-from.ensures,
      to_below e k.edge_to-to.result k.edge_to-to.ensures,
      k.loop-e.invariant.node_room,
      omega (arith, k.requires.counted, nodes_length k.args.nodes.now),
    )

-- the invariant, with the edge of the turn as the one before
turn-state : (k : After-edge_to-to)
    → Linking k.args.nodes.now k.args.edges.now k.args.counts.now (k.fill.new.self ++ drop (length k.args.nodes.now / node_width) k.args.head.now) k.args.next.now
    k.loop-e.head k.loop-e.next
    (suc (k.loop-e.e - 1))
turn-state k =
    let l = k.loop-e in
    linking_at k.args.nodes.now k.args.edges.now k.args.counts.now (suc (l.e - 1)) (omega arith) l.invariant

pub slice_bounds-fill-end : goal.slice_bounds-fill-end
slice_bounds-fill-end c = omega (arith, c.requires.node_room, nodes_length c.args.nodes.now)

pub slice_bounds-fill-end-2 : goal.slice_bounds-fill-end-2
slice_bounds-fill-end-2 c =
    let n = length c.args.nodes.now / node_width in
    omega (arith, c.requires.node_room, nodes_length c.args.nodes.now, length-take n c.args.head.now)

-- every head is the number of edges
filled : (k : After-fill)
    → k.fill.new.self ++ drop (length k.args.nodes.now / node_width) k.args.head.now
    ≡ replicate (length k.args.nodes.now / node_width) (length k.args.edges.now / edge_width) ++ drop (length k.args.nodes.now / node_width) k.args.head.now
filled k =
    let n = length k.args.nodes.now / node_width in
    let m = length k.args.edges.now / edge_width in
    let long : length (take n k.args.head.now) ≡ n = omega (arith, k.requires.node_room, nodes_length k.args.nodes.now, length-take n k.args.head.now) in
    ap (λ l. l ++ drop n k.args.head.now) (k.fill.ensures.after (λ y e. search rules) ∙ ap (λ i. replicate i m) long)

pub loop-e-init : goal.loop-e-init
loop-e-init c =
    rw (filled (goal.at.loop-e-init c).After-fill) (link_start c.args.nodes.now c.args.edges.now c.args.counts.now c.requires)

pub edge_from-from-requires : goal.edge_from-from-requires
edge_from-from-requires c = let e = turn_ends c in (e.room, e.from_low)

pub edge_to-to-requires : goal.edge_to-to-requires
edge_to-to-requires c = let e = turn_ends (goal.at.edge_to-to-requires c).In-loop-e in (e.room, e.to_low)

pub offset_bounds-head-from : goal.offset_bounds-head-from
offset_bounds-head-from c = omega (arith, turn_within c)

pub bounds-head-from : goal.bounds-head-from
bounds-head-from c = omega (arith, turn_within (goal.at.bounds-head-from c).After-edge_to-to)

pub offset_bounds-counts-to : goal.offset_bounds-counts-to
offset_bounds-counts-to c = omega (arith, turn_within (goal.at.offset_bounds-counts-to c).After-edge_to-to)

pub bounds-counts-to : goal.bounds-counts-to
bounds-counts-to c = omega (arith, turn_within (goal.at.bounds-counts-to c).After-edge_to-to)

pub offset_bounds-head-from-then-counts-to-ne0 : goal.offset_bounds-head-from-then-counts-to-ne0
offset_bounds-head-from-then-counts-to-ne0 c = omega (arith, turn_within (goal.at.offset_bounds-head-from-then-counts-to-ne0 c).After-edge_to-to)

pub bounds-head-from-then-counts-to-ne0 : goal.bounds-head-from-then-counts-to-ne0
bounds-head-from-then-counts-to-ne0 c = omega (arith, turn_within (goal.at.bounds-head-from-then-counts-to-ne0 c).After-edge_to-to)

pub loop-e-preserved-then-counts-to-ne0 : goal.loop-e-preserved-then-counts-to-ne0
loop-e-preserved-then-counts-to-ne0 c =
    link_live c.args.nodes.now c.args.edges.now c.args.counts.now (turn-state (goal.at.loop-e-preserved-then-counts-to-ne0 c).After-edge_to-to) c.edge_from-from.result c.edge_to-to.result
    c.edge_from-from.ensures c.edge_to-to.ensures c.if-counts-to-ne0.true

pub loop-e-preserved : goal.loop-e-preserved
loop-e-preserved c =
    link_dead c.args.nodes.now c.args.edges.now c.args.counts.now (turn-state (goal.at.loop-e-preserved c).After-edge_to-to) c.edge_from-from.result c.edge_to-to.result
    c.edge_from-from.ensures c.edge_to-to.ensures c.if-counts-to-ne0.false

pub returns : goal.returns
returns c =
    link_end c.args.nodes.now c.args.edges.now c.args.counts.now c.args.head.now
    (linking_at c.args.nodes.now c.args.edges.now c.args.counts.now 0 (omega arith) c.loop-e.invariant) (filled (goal.at.returns c).After-fill)
