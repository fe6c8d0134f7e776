-- The last digit is stored behind those of the tenth.
use mathlib.Core.Path.{ap}
use Prim.Native.Nat.{◌+◌, ◌%◌}
use native.Mathlib.Omega.{arith}
use lib.ListN.{length}
use Rattle.report.proofs.Digits.{digits-none, digits_one, digits_more, digits-more_length}
use Rattle.report.proofs.Tail.{put_none, put_byte}
use Rattle.report.proofs.+put_digits.Goals as goal

pub returns-then-left-eq0 : goal.returns-then-left-eq0
returns-then-left-eq0 t c = rw (digits-none c.args.left c.args.v (omega arith)) (put_none c.args.out.now)

pub bounds-out-0 : goal.bounds-out-0
bounds-out-0 t c = omega (arith, ap length (digits_one c.args.left c.args.v c.if-left-eq0.false (omega arith)))

pub returns-then-v-lt10 : goal.returns-then-v-lt10
returns-then-v-lt10 t c =
    let one = digits_one c.args.left c.args.v c.if-left-eq0.false (omega arith) in
    rw one (put_byte (48 + c.args.v) (put_none c.args.out.now) (omega (arith, ap length one)))

pub put_digits-n-requires : goal.put_digits-n-requires
put_digits-n-requires t c = omega (arith, digits-more_length c.args.left c.args.v c.if-left-eq0.false (omega arith))

pub bounds-out-n : goal.bounds-out-n
bounds-out-n t c =
    omega (arith, c.put_digits-n.ensures.count, c.put_digits-n.auto.out, digits-more_length c.args.left c.args.v c.if-left-eq0.false (omega arith))

pub returns : goal.returns
returns t c =
    let longer = digits-more_length c.args.left c.args.v c.if-left-eq0.false (omega arith) in
    rw (digits_more c.args.left c.args.v c.if-left-eq0.false (omega arith))
    (put_byte (48 + c.args.v % 10) c.put_digits-n.ensures (omega (arith, c.put_digits-n.ensures.count, longer)))
