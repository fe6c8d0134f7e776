use Prim.Native.Nat.{suc, ◌-◌}
use native.Mathlib.Omega.{arith}
use Rattle.reach.proofs.Ends.{Ends, edge_ends}
use Rattle.forward.proofs.Links.{Linking, linking_at, link_start, link_within, link_next, link_end}
use Rattle.forward.proofs.link_entering.Goals.{In-loop-e}
use Rattle.forward.proofs.link_entering.Goals as goal

-- the edge of a turn has its ends among the nodes
turn_ends : (k : In-loop-e)
    → Ends k.args.nodes.now k.args.edges.now (k.loop-e.e - 1)
turn_ends k =
    edge_ends k.args.nodes.now k.args.edges.now k.requires.tables (k.loop-e.e - 1)
    (omega (arith, k.loop-e-test.true, k.loop-e.invariant.within))

-- the invariant, with the edge of the turn as the one before
turn-state : (k : In-loop-e)
    → Linking k.args.nodes.now k.args.edges.now k.set_heads.new.plan k.loop-e.plan (suc (k.loop-e.e - 1))
turn-state k =
    linking_at k.args.nodes.now k.args.edges.now (suc (k.loop-e.e - 1)) (omega (arith, k.loop-e-test.true)) k.loop-e.invariant

pub loop-e-init : goal.loop-e-init
loop-e-init c =
    link_start c.args.nodes.now c.args.edges.now c.requires c.set_heads.ensures

pub edge_to-requires : goal.edge_to-requires
edge_to-requires c = let e = turn_ends (goal.at.edge_to-requires c).In-loop-e in (e.room, e.to_low)

pub link_first-requires : goal.link_first-requires
link_first-requires c =
    link_within c.args.nodes.now c.args.edges.now (turn-state (goal.at.link_first-requires c).In-loop-e) c.edge_to.result c.edge_to.ensures

pub loop-e-preserved : goal.loop-e-preserved
loop-e-preserved c =
    rw c.link_first.ensures
    (link_next c.args.nodes.now c.args.edges.now (turn-state (goal.at.loop-e-preserved c).In-loop-e) c.edge_to.result c.edge_to.ensures)

pub returns : goal.returns
returns c =
    link_end c.args.nodes.now c.args.edges.now c.set_heads.ensures
    (linking_at c.args.nodes.now c.args.edges.now 0 (omega (arith, c.loop-e-test.false)) c.loop-e.invariant)
