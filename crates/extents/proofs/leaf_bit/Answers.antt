-- The first bit of the leaf is a bit address, so that the difference fits.
use mathlib.Core.List.{[]}
use lib.IntN.{pos}
use Rattle.model.specs.Graph.{graph_of, node}
use Rattle.extents.proofs.Bounds.{leaf_movable}
use Rattle.extents.proofs.Rows.{node_limits}
use Rattle.extents.proofs.leaf_bit.Goals as goal

pub less-requires : goal.less-requires
less-requires c =
    leaf_movable (node (graph_of c.args.nodes.now []) (pos c.args.leaf)) (node_limits c.requires.0 []) c.requires.1 (c.extent_of.ensures [])
