-- The counts from the roots of the row give the refusal that its paths have.
use mathlib.Core.Path.{ap, ◌∙◌}
use native.Mathlib.Omega.{arith}
use Rattle.model.specs.Graph.{graph_of}
use Rattle.model.specs.Paths.{Root}
use Rattle.tables.proofs.Checks.{checked}
use Rattle.tables.specs.Tables.{pair_at}
use Rattle.pathlimit.proofs.Inputs.{row-roots}
use Rattle.pathlimit.proofs.Rows.{spec_countable, impl_countable, groups-counted, row_checked}
use Rattle.pathlimit.proofs.check_row.Goals.{Start}
use Rattle.pathlimit.proofs.check_row.Goals as goal

-- the nodes of the root row are roots
roots : (s : Start)
    → let a = s.args in
    let p = pair_at a.root_pairs.now a.root_row in
    Root (graph_of a.spec_nodes.now a.spec_edges.now) p.spec × Root (graph_of a.impl_nodes.now a.impl_edges.now) p.impl
roots s = row-roots s.requires.0.inputs s.args.root_row s.requires.3

pub spec_node-spec_root-requires : goal.spec_node-spec_root-requires
spec_node-spec_root-requires c = (omega (arith, c.requires.3), (roots (goal.at.spec_node-spec_root-requires c).Start).0.row.low)

pub impl_node-impl_root-requires : goal.impl_node-impl_root-requires
impl_node-impl_root-requires c = (omega (arith, c.requires.3), (roots (goal.at.impl_node-impl_root-requires c).Start).1.row.low)

pub count_from-requires : goal.count_from-requires
count_from-requires c =
    spec_countable c.requires.0 c.args.root_row c.requires.3 c.spec_node-spec_root.ensures c.requires.1

pub count_from-requires-2 : goal.count_from-requires-2
count_from-requires-2 c =
    impl_countable c.requires.0 c.args.root_row c.requires.3 c.impl_node-impl_root.ensures c.requires.2

pub check_groups-requires : goal.check_groups-requires
check_groups-requires c =
    groups-counted c.requires.0 c.args.root_row c.requires.3
    (omega (arith, c.requires.1, c.count_from.auto.counts)) (omega (arith, c.requires.2, c.count_from-2.auto.counts)) c.count_from-2.ensures

pub returns : goal.returns
returns c =
    c.check_groups.ensures
    ∙ ap checked
    (row_checked c.requires.0 c.args.root_row c.requires.3 c.spec_node-spec_root.ensures c.impl_node-impl_root.ensures c.count_from.ensures
    c.count_from-2.ensures)
