-- A negative number has a minus before its digits.
use mathlib.Core.Path.{◌≡◌, ap}
use native.Mathlib.Omega.{arith}
use lib.IntN.{nat_abs}
use lib.ListN.{length}
use mir.Facts.{to_z-of_z}
use Rattle.model.specs.Bytes.{digits}
use Rattle.report.proofs.Digits.{digits-short, shown-negative, shown-other}
use Rattle.report.proofs.Distance.{negative-held, other-held}
use Rattle.report.proofs.number_length.Goals.{After-digits_length-n}
use Rattle.report.proofs.number_length.Goals as goal

counted : (c : After-digits_length-n) → c.digits_length-n.result ≡ length (digits 20 (nat_abs c.args.v))
counted c = rw (c.magnitude.ensures, to_z-of_z c.ranges.v) at c.digits_length-n.ensures

pub overflow_add-result : goal.overflow_add-result
overflow_add-result c = omega (arith, counted (goal.at.overflow_add-result c).After-digits_length-n, digits-short 20 (nat_abs c.args.v))

pub returns-then-v-lt0 : goal.returns-then-v-lt0
returns-then-v-lt0 c =
    omega (arith, counted (goal.at.returns-then-v-lt0 c).After-digits_length-n, ap length (shown-negative c.args.v (negative-held c.ranges.v c.if-v-lt0.true)))

pub returns-else-v-lt0 : goal.returns-else-v-lt0
returns-else-v-lt0 c =
    omega (arith, counted (goal.at.returns-else-v-lt0 c).After-digits_length-n, ap length (shown-other c.args.v (other-held c.ranges.v c.if-v-lt0.false)))
