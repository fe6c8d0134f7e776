-- All bits where the node is open, and the bit before the first as the last where it is closed.
use mathlib.Core.List.{[]}
use lib.IntN.{pos}
use mathlib.Core.Path.{sym, ◌∙◌}
use Rattle.model.specs.Graph.{graph_of, node}
use Rattle.extents.proofs.Rows.{node_limits}
use Rattle.extents.proofs.Bounds.{extent_open, extent_closed, first_previous}
use Rattle.extents.proofs.open_extent.Goals as goal

pub returns-then-is_open : goal.returns-then-is_open
returns-then-is_open c es = extent_open (sym c.if-is_open.true ∙ c.is_open.ensures es) (c.extent_of-extent.ensures es)

pub previous-requires : goal.previous-requires
previous-requires c =
    first_previous (node (graph_of c.args.nodes.now []) (pos c.args.v)) (node_limits c.requires []) (c.extent_of-extent.ensures [])

pub returns : goal.returns
returns c es = extent_closed (sym c.if-is_open.false ∙ c.is_open.ensures es) (c.extent_of-extent.ensures es) c.previous.ensures
