-- The row that was read is the node.
use Rattle.extents.proofs.Rows.{row_extent}
use Rattle.extents.proofs.extent_of.Goals as goal

pub returns : goal.returns
returns c es =
    let row = c.node_at-row in
    row_extent c.requires row.result row.ensures es c.node_first_bit.ensures c.node_last_bit.ensures
