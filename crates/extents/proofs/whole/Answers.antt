-- The ends are the first and the last bit of the node.
use Rattle.extents.specs.Extents.{bits_of}
use Rattle.extents.proofs.whole.Goals as goal

pub returns : goal.returns
unfolding bits_of
returns c es = let x = c.extent_of.ensures es in cc
