-- The offset and the unit that were read are those of the edge and of the node that it enters.
use mathlib.Core.Path.{◌≡◌, ap, ◌∙◌}
use borrow.Author.Rules.{rules}
use mir.Syntax.{w64}
use mir.Val.{SFits}
use mir.Facts.{to_z-of_z}
use Rattle.model.specs.Rows.{Node, Edge}
use Rattle.tables.specs.Tables.{node_at, edge_at}
use Rattle.extents.proofs.Rows.{to_row, to-good, offset_limits, offset_read}
use Rattle.extents.proofs.offset_of.Goals.{After-node_at-entered}
use Rattle.extents.proofs.offset_of.Goals as goal

pub edge_to-requires : goal.edge_to-requires
edge_to-requires c = (c.requires.1, (to_row c.requires.0 c.args.e c.requires.1).low)

pub node_at-entered-requires : goal.node_at-entered-requires
node_at-entered-requires c = (to-good c.requires.0 c.args.e c.requires.1 c.edge_to.ensures).there

offset-same : (c : After-node_at-entered) → c.edge_at-row.result.offset.0 ≡ (edge_at c.args.edges.now c.args.e).offset
offset-same c = ap (λ (x : Edge). x.offset) c.edge_at-row.ensures

unit-same : (c : After-node_at-entered) → c.node_at-entered.result.unit ≡ (node_at c.args.nodes.now c.edge_to.result).unit
unit-same c = ap (λ (x : Node). x.unit) c.node_at-entered.ensures

unit-fits : (c : After-node_at-entered) → SFits w64 c.node_at-entered.result.unit
unit-fits c = search rules

pub edge_bit_offset-requires : goal.edge_bit_offset-requires
edge_bit_offset-requires c =
    let k = (goal.at.edge_bit_offset-requires c).After-node_at-entered in
    simp (to_z-of_z, unit-fits k) (offset_limits c.requires.0 c.args.e c.requires.1 (offset-same k) c.edge_to.ensures (unit-same k))

pub returns : goal.returns
returns c =
    let k = (goal.at.returns c).After-node_at-entered in
    simp (to_z-of_z, unit-fits k) at c.edge_bit_offset.ensures
    ∙ offset_read c.requires.0 c.args.e c.requires.1 (offset-same k) c.edge_to.ensures (unit-same k)
