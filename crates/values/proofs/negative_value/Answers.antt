-- The value is 0 less the magnitude, which is not 0.
use mathlib.Core.Path.{sym}
use native.Mathlib.Omega.{arith}
use Rattle.values.proofs.Numerals.{positive_fits, negative_fits, negative_zero, negative-value, negative-none}
use Rattle.values.proofs.negative_value.Goals as goal

pub returns-in_err-n : goal.returns-in_err-n
returns-in_err-n c = rw c.from_residual.ensures (negative-none c.args.field.now (sym c.in_err-n.ensures))

pub returns-then-n-eq0 : goal.returns-then-n-eq0
returns-then-n-eq0 c = negative_zero c.args.field.now (sym c.in_ok-n.ensures) (omega arith)

pub overflow_cast-result : goal.overflow_cast-result
overflow_cast-result c = positive_fits c.args.field.now (sym c.in_ok-n.ensures)

pub overflow_sub-result : goal.overflow_sub-result
overflow_sub-result c = negative_fits c.args.field.now (sym c.in_ok-n.ensures)

pub returns : goal.returns
returns c = negative-value c.args.field.now (sym c.in_ok-n.ensures) (omega arith)
