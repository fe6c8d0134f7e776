-- The number as it is read.
use mathlib.Core.Path.{◌∙◌}
use mir.Facts.{to_z-of_z}
use Rattle.listing.proofs.leaf_bit.Goals as goal

pub returns : goal.returns
returns c = c.of.ensures ∙ to_z-of_z c.ranges.number
