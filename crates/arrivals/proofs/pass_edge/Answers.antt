-- What has arrived at the node that the edge leaves comes to the node that it enters, if that is open to the walks, once a list of the one that it leaves may have been stored.
use mathlib.Core.Path.{◌≡◌, refl, sym, ap, subst, ◌∙◌}
use mathlib.Core.Bool.{true}
use mathlib.Core.Option.{some}
use native.Mathlib.Omega.{arith}
use lib.IntN.{pos}
use Rattle.model.specs.declared.WalkKind.{WalkKind}
use Rattle.model.specs.Graph.{graph_of, node}
use Rattle.model.specs.Walk.{Open}
use Rattle.extents.proofs.Rows.{node-good}
use Rattle.references.specs.References.{reference_of, own, brought_of}
use Rattle.arrivals.specs.State.{is_met, kind_in}
use Rattle.arrivals.specs.Sweep.{Sweeping}
use Rattle.arrivals.specs.Moves.{crossing}
use Rattle.arrivals.proofs.Agreeing.{row-few}
use Rattle.arrivals.proofs.Passing.{next_edge, next-from, next-to, next_readable, from-read, to_read, next_crossable, crossing-read, crossing_stored, may_enter, next_ownable}
use Rattle.arrivals.proofs.Passing.{brought_lying, sweeping-unmet, sweeping_barred, sweeping_nothing, sweeping-met, meeting-root, meeting-kind}
use Rattle.arrivals.proofs.pass_edge.Goals.{After-brought_over, After-edge_from-from, After-edge_to-to, After-store_list, Else-not-is_met}
use Rattle.arrivals.proofs.pass_edge.Goals as goal

-- ---- what is known after them

-- the node that was read is the one that the edge leaves
leaves : (k : After-edge_from-from) → pos k.edge_from-from.result ≡ (next_edge k.args.edges.now k.args.plan.now k.args.i).from
leaves k = from-read k.requires.sweeping k.requires.there k.planned_row-e.ensures k.edge_from-from.ensures

-- something has arrived there
met : (k : Else-not-is_met) → is_met k.args.state.now k.edge_from-from.result ≡ true
met k = sym k.is_met.ensures ∙ k.if-not-is_met.false

-- the other node that was read is the one that the edge enters
enters : (t : After-edge_to-to)
    → pos t.edge_to-to.result ≡ (next_edge t.args.edges.now t.args.plan.now t.args.i).to
enters t =
    to_read t.requires.sweeping t.requires.there t.planned_row-e.ensures t.edge_to-to.ensures

-- what the code says comes over the edge
came : (x : After-brought_over)
    → let g = graph_of x.args.nodes.now x.args.edges.now in
    let e = next_edge x.args.edges.now x.args.plan.now x.args.i in
    crossing g e (own g e.to) x.args.state.now ≡ brought_of x.brought_over.result
came x =
    crossing-read x.requires.sweeping x.requires.there x.planned_row-e.ensures (enters (goal.at.After-brought_over x).After-edge_to-to) (x.own_reference.ensures x.args.edges.now) x.brought_over.ensures

-- what comes is a reference, and so it is once a list may have been stored
stored : (l : After-store_list)
    → let g = graph_of l.args.nodes.now l.args.edges.now in
    let e = next_edge l.args.edges.now l.args.plan.now l.args.i in
    crossing g e (own g e.to) l.store_list.new.state ≡ some (reference_of l.in-Some.part)
stored l =
    let g = graph_of l.args.nodes.now l.args.edges.now in
    let e = next_edge l.args.edges.now l.args.plan.now l.args.i in
    crossing_stored g e (own g e.to) (leaves (goal.at.After-store_list l).After-edge_from-from) (met (goal.at.After-store_list l).Else-not-is_met) l.store_list.ensures ∙ came (goal.at.After-store_list l).After-brought_over ∙ ap brought_of l.in-Some.is

-- the state is then swept as far
swept : (l : After-store_list)
    → Sweeping l.args.nodes.now l.args.edges.now l.args.plan.now l.args.i l.store_list.new.state
swept l =
    l.store_list.ensures.sweeping l.args.i l.requires.sweeping

-- and the node that the edge enters is open to the walks
access : (l : After-store_list)
    → let e = next_edge l.args.edges.now l.args.plan.now l.args.i in
    Open (kind_in l.store_list.new.state) (node (graph_of l.args.nodes.now l.args.edges.now) e.to).access
access l =
    let e = next_edge l.args.edges.now l.args.plan.now l.args.i in
    subst (λ (k : WalkKind). Open k (node (graph_of l.args.nodes.now l.args.edges.now) e.to).access) (sym l.store_list.ensures.kind)
    (may_enter l.requires.sweeping l.requires.there (enters (goal.at.After-store_list l).After-edge_to-to) l.kind_in.ensures (l.is_open.ensures l.args.edges.now)
    l.if-not-is_open.false)

pub edge_from-from-requires : goal.edge_from-from-requires
edge_from-from-requires c =
    let r = next_readable c.requires.sweeping c.requires.there c.planned_row-e.ensures in
    (r.0, r.1)

pub is_met-requires : goal.is_met-requires
is_met-requires c =
    let w = c.requires.sweeping in
    omega (arith, w.room, row-few w.tables (next-from w c.requires.there (leaves c)))

pub returns-then-not-is_met : goal.returns-then-not-is_met
returns-then-not-is_met c = (
  sweeping-unmet c.requires.sweeping c.requires.there c.edge_from-from.result (leaves (goal.at.returns-then-not-is_met c).After-edge_from-from)
      (sym c.is_met.ensures ∙ c.if-not-is_met.true),
  refl,
  refl,
)

pub edge_to-to-requires : goal.edge_to-to-requires
edge_to-to-requires c =
    let r = next_readable c.requires.sweeping c.requires.there c.planned_row-e.ensures in
    (r.0, r.2)

pub own_reference-requires : goal.own_reference-requires
own_reference-requires c =
    node-good c.requires.sweeping.tables (next-to c.requires.sweeping c.requires.there (enters c))

pub brought_over-requires : goal.brought_over-requires
brought_over-requires c =
    next_crossable c.requires.sweeping c.requires.there c.planned_row-e.ensures (enters (goal.at.brought_over-requires c).After-edge_to-to) (c.own_reference.ensures c.args.edges.now)

pub kind_in-requires : goal.kind_in-requires
kind_in-requires c = omega (arith, c.requires.sweeping.room)

pub is_open-requires : goal.is_open-requires
is_open-requires c =
    node-good c.requires.sweeping.tables (next-to c.requires.sweeping c.requires.there (enters (goal.at.is_open-requires c).After-edge_to-to))

pub returns-then-not-is_open : goal.returns-then-not-is_open
returns-then-not-is_open c = (
  sweeping_barred c.requires.sweeping c.requires.there (enters (goal.at.returns-then-not-is_open c).After-edge_to-to) c.kind_in.ensures (c.is_open.ensures c.args.edges.now)
      c.if-not-is_open.true,
  refl,
  refl,
)

pub store_list-requires : goal.store_list-requires
store_list-requires c =
    next_ownable c.requires.sweeping c.requires.there (leaves (goal.at.store_list-requires c).After-edge_from-from) (met (goal.at.store_list-requires c).Else-not-is_met) c.requires.spare_room

pub meet-requires : goal.meet-requires
meet-requires c =
    let there = c.requires.there in
    let w = swept (goal.at.meet-requires c).After-store_list in
    let row = next-to w there (enters (goal.at.meet-requires c).After-edge_to-to) in
    let in_owner =
    brought_lying w there c.edge_from-from.result (leaves (goal.at.meet-requires c).After-edge_from-from) c.store_list.ensures.met c.edge_to-to.result (reference_of c.in-Some.part) (pos 0) (enters (goal.at.meet-requires c).After-edge_to-to) (stored (goal.at.meet-requires c).After-store_list) in
    (node-good w.tables row, row-few w.tables row, omega (arith, w.room), row-few w.tables in_owner.row)

pub returns : goal.returns
returns c =
    let g = graph_of c.args.nodes.now c.args.edges.now in
    let there = c.requires.there in
    let w = swept (goal.at.returns c).After-store_list in
    let low = row-few w.tables (next-to w there (enters (goal.at.returns c).After-edge_to-to)) in
    let f = reference_of c.in-Some.part in
    let rows = c.meet.ensures.0 in
    rw (c.meet.ensures.1 c.args.edges.now) (
      sweeping-met w there c.edge_from-from.result (leaves (goal.at.returns c).After-edge_from-from) c.store_list.ensures.met c.edge_to-to.result f rows (enters (goal.at.returns c).After-edge_to-to) (stored (goal.at.returns c).After-store_list) (access (goal.at.returns c).After-store_list),
      meeting-root c.store_list.new.state c.edge_to-to.result (own g (pos c.edge_to-to.result)) f rows low ∙ c.store_list.ensures.root,
      meeting-kind c.store_list.new.state c.edge_to-to.result (own g (pos c.edge_to-to.result)) f rows low ∙ c.store_list.ensures.kind,
    )

pub returns-in_default : goal.returns-in_default
returns-in_default c = (
  sweeping_nothing c.requires.sweeping c.requires.there c.edge_from-from.result (leaves (goal.at.returns-in_default c).After-edge_from-from) (met (goal.at.returns-in_default c).Else-not-is_met) (came (goal.at.returns-in_default c).After-brought_over ∙ ap brought_of c.in_default.is),
  refl,
  refl,
)
