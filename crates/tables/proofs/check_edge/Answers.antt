-- The test does not read the row's number, so that it is the test on the row that was read. A row that passes it leaves a node row,
-- whose kind is read.
use mathlib.Core.Bool.{true}
use mathlib.Core.Path.{◌≡◌, sym, ap, ◌∙◌}
use Prim.Native.Nat.{◌+◌, ◌*◌, ◌≤◌}
use native.Mathlib.Omega.{arith}
use lib.IntN.{pos}
use lib.ListN.{length, get_or}
use Rattle.integers.specs.Integers.{eq_z}
use Rattle.integers.proofs.Linear.{ints}
use Rattle.model.specs.Limits.{node_width}
use Rattle.model.specs.Graph.{graph_of, NodeRow, node, block}
use Rattle.model.specs.Checks.{good_offset, good_edge}
use Rattle.tables.specs.Tables.{edge_at}
use Rattle.tables.proofs.Cells.{cells}
use Rattle.tables.proofs.Rows.{graph-nodes_length, node_at_lem}
use Rattle.tables.proofs.Limits.{edge_from-row}
use Rattle.tables.proofs.Checks.{edge_refused, edge_from-block, edge_taken}
use Rattle.tables.proofs.check_edge.Goals.{After-edge_from, After-good_edge, Else-not-good_edge}
use Rattle.tables.proofs.check_edge.Goals as goal

row_test : (c : After-good_edge) → let a = c.args in
    good_edge (graph_of a.nodes.now a.edges.now) (edge_at a.edges.now a.e) ≡ c.good_edge.result
unfolding good_offset good_edge
row_test c =
    let a = c.args in
    let g = graph_of a.nodes.now a.edges.now in
    sym (c.good_edge.ensures g (graph-nodes_length a.nodes.now a.edges.now) ∙ ap (good_edge g) c.edge_at.ensures)

row-good : (c : Else-not-good_edge) → let a = c.args in
    good_edge (graph_of a.nodes.now a.edges.now) (edge_at a.edges.now a.e) ≡ true
row-good c = row_test (goal.at.edge_from-requires c).After-good_edge ∙ c.if-not-good_edge.false

from_row_lem : (c : Else-not-good_edge) → let a = c.args in
    NodeRow (graph_of a.nodes.now a.edges.now) (edge_at a.edges.now a.e).from
from_row_lem c = edge_from-row _ _ (row-good c)

from-there : (c : After-edge_from) → node_width * c.edge_from.result + node_width ≤ length c.args.nodes.now
from-there c =
    let a = c.args in
    omega (arith, ints, c.edge_from.ensures, (from_row_lem (goal.at.overflow_mul-edge_from c).Else-not-good_edge).high, graph-nodes_length a.nodes.now a.edges.now)

kind-same : (c : After-edge_from) → let a = c.args in
    (node (graph_of a.nodes.now a.edges.now) (edge_at a.edges.now a.e).from).kind ≡ get_or a.nodes.now (node_width * c.edge_from.result) (pos 0)
kind-same c =
    let a = c.args in
    let g = graph_of a.nodes.now a.edges.now in
    ap (λ v. (node g v).kind) (sym c.edge_from.ensures) ∙ ap (λ n. n.kind) (node_at_lem a.nodes.now a.edges.now c.edge_from.result (from-there c))

pub returns-then-not-good_edge : goal.returns-then-not-good_edge
returns-then-not-good_edge c = edge_refused _ _ _ (row_test (goal.at.returns-then-not-good_edge c).After-good_edge ∙ c.if-not-good_edge.true)

pub edge_from-requires : goal.edge_from-requires
edge_from-requires c = (c.requires, (from_row_lem c).low)

pub overflow_mul-edge_from : goal.overflow_mul-edge_from
overflow_mul-edge_from c = omega (arith, from-there c)

pub offset_bounds-nodes-edge_from : goal.offset_bounds-nodes-edge_from
offset_bounds-nodes-edge_from c = omega (arith, from-there c)

pub bounds-nodes-edge_from : goal.bounds-nodes-edge_from
bounds-nodes-edge_from c = omega (arith, from-there c)

pub returns-then-nodes-edge_from-eq-BLOCK : goal.returns-then-nodes-edge_from-eq-BLOCK
returns-then-nodes-edge_from-eq-BLOCK c =
    let at = goal.at.returns-then-nodes-edge_from-eq-BLOCK c in
    edge_from-block _ _ _ (row-good at.Else-not-good_edge)
    (ap (λ k. eq_z k block) (kind-same at.After-edge_from) ∙ (let h = c.if-nodes-edge_from-eq-BLOCK.true in grind (arith, cells)))

pub returns : goal.returns
returns c =
    let at = goal.at.returns c in
    edge_taken _ _ _ (row-good at.Else-not-good_edge)
    (ap (λ k. eq_z k block) (kind-same at.After-edge_from) ∙ grind (arith, cells))
