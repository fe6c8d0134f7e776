-- The node is written as a part of the table.
use native.Mathlib.Omega.{arith}
use mir.Facts.{to_z-of_z}
use Rattle.model.specs.Sheet.{byte_node}
use Rattle.sheettables.proofs.Stores.{put_mid-sets}
use Rattle.sheettables.proofs.put_node.Goals as goal

pub returns : goal.returns
unfolding byte_node
returns c =
    let a = c.args in
    put_mid-sets a.nodes.now a.at (byte_node a.kind a.range) (simp (to_z-of_z, c.ranges.kind, c.ranges.range) at c.copy_from_slice.ensures.after) (omega arith) (omega arith)
