use mathlib.Core.Path.{sym, ap}
use Prim.Native.Nat.{◌-◌, ◌/◌}
use native.Mathlib.Omega.{arith}
use lib.ListN.{length}
use Rattle.report.proofs.Digits.{digits-none, digits_one, digits-more_length, digits-short}
use Rattle.report.proofs.+digits_length.Goals as goal

pub returns-then-left-eq0 : goal.returns-then-left-eq0
returns-then-left-eq0 t c = sym (ap length (digits-none c.args.left c.args.v (omega arith)))

pub overflow_add-result : goal.overflow_add-result
overflow_add-result t c = omega (arith, c.digits_length.ensures, digits-short (c.args.left - 1) (c.args.v / 10))

pub returns-else-v-lt10 : goal.returns-else-v-lt10
returns-else-v-lt10 t c = omega (arith, c.digits_length.ensures, digits-more_length c.args.left c.args.v c.if-left-eq0.false (omega arith))

pub returns-then-v-lt10 : goal.returns-then-v-lt10
returns-then-v-lt10 t c = sym (ap length (digits_one c.args.left c.args.v c.if-left-eq0.false (omega arith)))
