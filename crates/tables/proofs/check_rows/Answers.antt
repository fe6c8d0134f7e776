-- Each call answers one of the four checks; the answers are joined in their order.
use mathlib.Core.List.{List}
use mathlib.Core.Path.{◌≡◌, refl, sym, ◌∙◌}
use Prim.Native.Nat.{ℕ, suc}
use native.Mathlib.Numerals.{add-one}
use lib.IntN.{ℤ}
use Rattle.std.proofs.lemmas.Result.{err_from_is_err_and}
use Rattle.model.specs.Limits.{node_width, edge_width, max_nodes, max_edges}
use Rattle.model.specs.Rows.{node_rows, edge_rows}
use Rattle.model.specs.Graph.{graph_of}
use Rattle.model.specs.Checks.{◌then◌, first_refusal, check_shape, check_node, check_edge}
use Rattle.tables.specs.Tables.{check_rows}
use Rattle.tables.proofs.Checks.{then_on, then_stops}
use Rattle.tables.proofs.check_rows.Goals.{In_ok-check_shape, In_ok-check_shape-2, In_ok-check_nodes}
use Rattle.tables.proofs.check_rows.Goals as goal

-- the four checks
rows-all : (t : ℕ) (ns es : List ℤ) → check_rows t ns es
    ≡ check_shape t node_width max_nodes ns
    then check_shape (suc t) edge_width max_edges es
    then first_refusal (check_node t) (node_rows ns)
    then first_refusal (check_edge (suc t) (graph_of ns es)) (edge_rows es)
unfolding check_rows
rows-all t ns es = refl

pub returns-in_err-check_shape : goal.returns-in_err-check_shape
returns-in_err-check_shape c =
    let p = err_from_is_err_and c.from_residual.result c.from_residual.ensures.1 in
    rw (p.1, p.2, rows-all) (then_stops _ _ c.in_err-check_shape.ensures)

pub returns-in_err-check_shape-2 : goal.returns-in_err-check_shape-2
returns-in_err-check_shape-2 c =
    let p = err_from_is_err_and c.from_residual-in_err-check_shape-2.result c.from_residual-in_err-check_shape-2.ensures.1 in
    rw (p.1, p.2, rows-all) (then_stops _ _ (rw add-one at c.in_err-check_shape-2.ensures) ∙ sym (then_on _ _ c.in_ok-check_shape.ensures))

pub returns-in_err-check_nodes : goal.returns-in_err-check_nodes
returns-in_err-check_nodes c =
    let p = err_from_is_err_and c.from_residual-in_err-check_nodes.result c.from_residual-in_err-check_nodes.ensures.1 in
    rw (p.1, p.2, rows-all)
    (then_stops _ _ c.in_err-check_nodes.ensures ∙ sym (then_on _ _ c.in_ok-check_shape.ensures ∙ then_on _ _ (rw add-one at c.in_ok-check_shape-2.ensures)))

pub returns : goal.returns
returns c =
    rw rows-all
    (rw add-one at c.check_edges.ensures
    ∙ sym (then_on _ _ c.in_ok-check_shape.ensures ∙ then_on _ _ (rw add-one at c.in_ok-check_shape-2.ensures) ∙ then_on _ _ c.in_ok-check_nodes.ensures))
