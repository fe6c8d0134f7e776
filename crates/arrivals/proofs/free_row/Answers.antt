-- The number is not negative, so that it is its own size.
use mathlib.Core.Path.{ap}
use lib.IntN.{nat_abs}
use Rattle.arrivals.proofs.free_row.Goals as goal

pub returns : goal.returns
returns c = ap nat_abs c.number_at.ensures
