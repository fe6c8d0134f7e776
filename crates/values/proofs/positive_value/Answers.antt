-- The value is the magnitude, which is small enough.
use mathlib.Core.Path.{sym}
use Rattle.values.proofs.Numerals.{positive_fits, positive_value}
use Rattle.values.proofs.positive_value.Goals as goal

pub overflow_cast-result : goal.overflow_cast-result
overflow_cast-result c = positive_fits c.args.field.now (sym c.in_ok-n.ensures)

pub returns : goal.returns
returns c = positive_value c.args.field.now (sym c.in_ok-n.ensures)
