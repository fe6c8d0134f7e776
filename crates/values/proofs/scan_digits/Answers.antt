use mathlib.Core.Path.{sym, ◌∙◌}
use Prim.Native.Nat.{◌^◌, ◌<◌}
use native.Mathlib.Omega.{arith}
use Rattle.model.specs.Reader.{is_digit}
use Rattle.values.proofs.Numerals.{digits-none, digits_other, digits_goes, digit_more, digits-small}
use Rattle.values.proofs.scan_digits.Goals.{Else-not-is_ascii_digit}
use Rattle.values.proofs.scan_digits.Goals as goal

small : (d : Else-not-is_ascii_digit) → d.loop-b.value < 10 ^ 17
small d = digits-small d.loop-b.value d.loop-b.b-index 17 d.loop-b.invariant.0 (omega arith)

pub returns-then-not-is_ascii_digit : goal.returns-then-not-is_ascii_digit
unfolding is_digit
returns-then-not-is_ascii_digit c =
    sym (c.loop-b.invariant.1 ∙ digits_other c.args.field.now c.loop-b.b-index c.loop-b.value c.loop-b-test.true (sym c.if-not-is_ascii_digit.ensures.value))

pub overflow_mul-value : goal.overflow_mul-value
overflow_mul-value c = omega (arith, small (goal.at.overflow_mul-value c).Else-not-is_ascii_digit)

pub overflow_add-value : goal.overflow_add-value
overflow_add-value c = omega (arith, small (goal.at.overflow_add-value c).Else-not-is_ascii_digit, c.if-not-is_ascii_digit.ensures.cases)

pub loop-b-preserved : goal.loop-b-preserved
loop-b-preserved c =
    let digit = c.if-not-is_ascii_digit.ensures.cases in
    rw c.from.ensures (
      digit_more c.loop-b.value c.loop-b.b-index _ c.loop-b.invariant.0 (omega arith),
      c.loop-b.invariant.1 ∙ digits_goes c.args.field.now c.loop-b.b-index c.loop-b.value c.loop-b-test.true digit.0 digit.1,
    )

pub returns : goal.returns
returns c = sym (c.loop-b.invariant.1 ∙ digits-none c.args.field.now c.loop-b.b-index c.loop-b.value c.loop-b-test.false)
