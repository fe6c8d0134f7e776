-- The node is that whose row was read.
use borrow.Author.Rules.{rules}
use Rattle.extents.proofs.Rows.{to_row, to-good, to_extent}
use Rattle.extents.proofs.entered_extent.Goals as goal

pub returns : goal.returns
returns c =
    to_extent c.requires.0 c.args.e c.requires.1 (search rules) (c.open_extent.ensures c.args.edges.now)

pub edge_to-requires : goal.edge_to-requires
edge_to-requires c = (c.requires.1, (to_row c.requires.0 c.args.e c.requires.1).low)

pub open_extent-requires : goal.open_extent-requires
open_extent-requires c = to-good c.requires.0 c.args.e c.requires.1 (search rules)
