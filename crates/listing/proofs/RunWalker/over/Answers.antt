-- What the step leaves is what the run becomes.
use Rattle.extents.proofs.Rows.{edge_in}
use Rattle.listing.proofs.Walkers.{run_crossed}
use Rattle.listing.proofs.RunWalker.over.Goals as goal

pub returns : goal.returns
returns c =
    let a = c.args in
    let p = c.requires in
    run_crossed a.kind p.0.graph (edge_in a.nodes.now a.edges.now a.e p.1) a.self p.2 c.step.result c.step.ensures.result_value
