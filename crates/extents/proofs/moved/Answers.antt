-- The bit offset of an edge is small, so that the difference fits.
use borrow.Author.Rules.{rules}
use Rattle.extents.proofs.Bounds.{address_movable}
use Rattle.extents.proofs.Rows.{edge_small}
use Rattle.extents.proofs.moved.Goals as goal

pub returns : goal.returns
returns c = rw (← c.offset_of-offset.ensures) (search rules)

pub less-requires : goal.less-requires
less-requires c = address_movable c.requires.2 (edge_small c.requires.0 c.args.e c.requires.1 c.offset_of-offset.ensures)
