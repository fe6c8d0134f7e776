-- Both graphs are swept, each from its root of the row.
use mathlib.Core.Path.{◌≡◌, ◌∙◌}
use Prim.Native.Nat.{◌*◌}
use native.Mathlib.Omega.{arith}
use lib.ListN.{length}
use Rattle.model.specs.Limits.{max_paths}
use Rattle.model.specs.Graph.{graph_of}
use Rattle.model.specs.Paths.{Root}
use Rattle.tables.specs.Tables.{pair_at}
use Rattle.pathlimit.proofs.Inputs.{row-roots}
use Rattle.sorting.specs.Rows.{row_width}
use Rattle.rowpairs.proofs.Ready.{spec_sweepable, impl_sweepable, pairs-ready}
use Rattle.rowpairs.proofs.sweep_row.Goals.{After-sweep_root, Start}
use Rattle.rowpairs.proofs.sweep_row.Goals as goal

-- the nodes of the root row are roots
roots : (s : Start) → let a = s.args in let p = pair_at a.root_pairs.now a.root_row in
    Root (graph_of a.spec_nodes.now a.spec_edges.now) p.spec × Root (graph_of a.impl_nodes.now a.impl_edges.now) p.impl
roots s = row-roots s.requires.ready.plans.inputs s.args.root_row s.requires.row

-- the spare area has its room after the first sweep
list-room : (c : After-sweep_root) → length c.sweep_root.new.spare ≡ row_width * max_paths
list-room c = c.sweep_root.auto.spare ∙ c.requires.rooms.list

pub spec_node-spec_root-requires : goal.spec_node-spec_root-requires
spec_node-spec_root-requires c = (omega (arith, c.requires.row), (roots (goal.at.spec_node-spec_root-requires c).Start).0.row.low)

pub sweep_root-requires : goal.sweep_root-requires
sweep_root-requires c =
    let k = c.requires in
    spec_sweepable k.ready k.row c.spec_node-spec_root.ensures k.rooms.spec k.rooms.list

pub impl_node-impl_root-requires : goal.impl_node-impl_root-requires
impl_node-impl_root-requires c = (omega (arith, c.requires.row), (roots (goal.at.impl_node-impl_root-requires c).Start).1.row.low)

pub sweep_root-requires-2 : goal.sweep_root-requires-2
sweep_root-requires-2 c =
    let k = c.requires in
    impl_sweepable k.ready k.row c.impl_node-impl_root.ensures k.rooms.impl (list-room (goal.at.sweep_root-requires-2 c).After-sweep_root)

pub returns : goal.returns
returns c leaves links ready =
    let k = c.requires in
    pairs-ready ready k.row c.spec_node-spec_root.ensures c.impl_node-impl_root.ensures
    c.sweep_root.ensures c.sweep_root-2.ensures (record {
      spec = c.sweep_root.auto.state ∙ k.rooms.spec;
      impl = c.sweep_root-2.auto.state ∙ k.rooms.impl;
      list = c.sweep_root-2.auto.spare ∙ list-room (goal.at.returns c).After-sweep_root;
    })
