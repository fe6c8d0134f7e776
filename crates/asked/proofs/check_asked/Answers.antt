-- The check of the graph, and where it takes the graph that of the root and the leaf.
use lib.ListN.{replicate}
use mir.Facts.{to_z-of_z}
use Rattle.std.proofs.lemmas.Result.{err_from_is_err_and}
use Rattle.model.specs.Limits.{max_edges}
use Rattle.named.proofs.Answers.{graph_nameable}
use Rattle.asked.proofs.Answers.{asked-refused, asked-named}
use Rattle.asked.proofs.check_asked.Goals as goal

pub returns-in_err-check_graph_with : goal.returns-in_err-check_graph_with
returns-in_err-check_graph_with c =
    let p = err_from_is_err_and c.from_residual.result c.from_residual.ensures.1 in
    rw (p.1, p.2) (asked-refused _ _ _ _ _ _ _ c.in_err-check_graph_with.ensures.answers)

pub check_named-requires : goal.check_named-requires
check_named-requires c =
    graph_nameable c.args.nodes.now c.args.edges.now (replicate max_edges 0) _ _ c.in_ok-check_graph_with.ensures.answers c.in_ok-check_graph_with.ensures.order c.requires

pub returns : goal.returns
returns c =
    let f = c.ranges in
    asked-named _ _ _ _ _ _ c.in_ok-check_graph_with.ensures.answers (simp (to_z-of_z f.leaf, to_z-of_z f.root) at c.check_named.ensures)
