-- Each check answers that of the row at its place.
use native.Mathlib.Omega.{arith}
use borrow.Author.Rules.{rules}
use Rattle.model.specs.Rows.{node_rows}
use Rattle.model.specs.Graph.{no_node}
use Rattle.model.specs.Checks.{check_node}
use Rattle.tables.proofs.Rows.{nodes_length, nodes-at}
use Rattle.tables.proofs.Checks.{rows_checked}
use Rattle.tables.proofs.check_nodes.Goals as goal

pub returns : goal.returns
returns c =
    let ns = c.args.nodes.now in
    rows_checked (check_node c.args.table) (node_rows ns) no_node c.first_refused.ensures (omega (arith, nodes_length ns)) (λ v a h k. rw (nodes-at ns v (omega arith)) (search rules))
