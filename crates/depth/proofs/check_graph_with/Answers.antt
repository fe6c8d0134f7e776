-- The rows are refused, or they are good and the edges are ordered: then the answer is what the edges are.
use mathlib.Core.Path.{refl}
use Rattle.std.proofs.lemmas.Result.{err_from_is_err_and}
use Rattle.model.specs.Calls.{answer}
use Rattle.depth.specs.Order.{chain_refusal}
use Rattle.depth.proofs.GraphCheck.{rows-refused, rows_taken, chains_answered}
use Rattle.depth.proofs.check_graph_with.Goals as goal

pub returns-in_err-check_rows : goal.returns-in_err-check_rows
returns-in_err-check_rows c =
    let p = err_from_is_err_and c.from_residual.result c.from_residual.ensures.1 in
    rw (p.1, p.2) (rows-refused c.args.table c.args.nodes.now c.args.edges.now c.args.order.now _ c.in_err-check_rows.ensures)

pub order_edges-requires : goal.order_edges-requires
order_edges-requires c = (
  rows_taken c.args.table c.args.nodes.now c.args.edges.now c.args.order.now c.in_ok-check_rows.ensures c.requires.2,
  c.requires.1,
)

pub returns-in-Cycle : goal.returns-in-Cycle
unfolding answer chain_refusal
returns-in-Cycle c = chains_answered c.args.table c.args.nodes.now c.args.edges.now c.args.order.now c.in_ok-check_rows.ensures c.in-Cycle.ensures refl

pub returns-in-LongChain : goal.returns-in-LongChain
unfolding answer chain_refusal
returns-in-LongChain c = chains_answered c.args.table c.args.nodes.now c.args.edges.now c.args.order.now c.in_ok-check_rows.ensures c.in-LongChain.ensures refl

pub returns-in-Ordered : goal.returns-in-Ordered
unfolding answer chain_refusal
returns-in-Ordered c = chains_answered c.args.table c.args.nodes.now c.args.edges.now c.args.order.now c.in_ok-check_rows.ensures c.in-Ordered.ensures refl
