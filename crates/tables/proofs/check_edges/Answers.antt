-- Each check answers that of the row at its place.
use native.Mathlib.Omega.{arith}
use borrow.Author.Rules.{rules}
use Rattle.model.specs.Rows.{edge_rows}
use Rattle.model.specs.Graph.{graph_of}
use Rattle.model.specs.Checks.{check_edge}
use Rattle.tables.specs.Tables.{edge_at}
use Rattle.tables.proofs.Rows.{edges_length, edges_at}
use Rattle.tables.proofs.Checks.{rows_checked}
use Rattle.tables.proofs.check_edges.Goals as goal

pub returns : goal.returns
returns c =
    let es = c.args.edges.now in
    let d = edge_at es 0 in
    rows_checked (check_edge c.args.table (graph_of c.args.nodes.now es)) (edge_rows es) d c.first_refused.ensures (omega (arith, edges_length es))
    (λ v a h k. rw (edges_at es v d (omega arith)) (search rules))
