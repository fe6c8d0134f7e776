-- Each way out is the outcome of the tests on it.
use mathlib.Core.Path.{◌≡◌, sym, ◌∙◌}
use mathlib.Core.Logic.{inl, inr}
use native.Mathlib.Omega.{arith}
use lib.ListN.{get_or}
use Rattle.values.proofs.Numerals.{magnitude-empty, magnitude-long, magnitude_zero, magnitude-scanned}
use Rattle.values.proofs.digits_value.Goals.{In_ok-first, else-first-eq48-via-then-first-eq48+else-field-gt1, else-first-eq48-via-else-first-eq48}
use Rattle.values.proofs.digits_value.Goals as goal

-- the first byte is that at place 0
first : (f : In_ok-first) → f.in_ok-first.field-0.now ≡ get_or f.args.field.now 0 0
first f = f.in_ok-first.ensures.item.3.1 0

pub returns-in_err-first : goal.returns-in_err-first
returns-in_err-first c = rw c.from_residual.ensures (sym (magnitude-empty c.args.field.now (omega (arith, c.in_err-first.ensures.item.3))))

pub returns-then-field-gt-MAX_DIGITS : goal.returns-then-field-gt-MAX_DIGITS
returns-then-field-gt-MAX_DIGITS c = sym (magnitude-long c.args.field.now c.if-field-gt-MAX_DIGITS.true)

pub returns-then-field-gt1 : goal.returns-then-field-gt1
returns-then-field-gt1 c =
    let here = first (goal.at.returns-then-field-gt1 c).In_ok-first in
    sym (magnitude_zero c.args.field.now (sym here ∙ c.if-first-eq48.true) c.if-field-gt1.true)

pub returns : goal.returns
returns c =
    let f = c.args.field.now in
    let here = first (goal.at.returns c).In_ok-first in
    let some_byte = c.in_ok-first.ensures.item.3.0 in
    c.scan_digits.ensures
    ∙ sym (magnitude-scanned f some_byte c.if-field-gt-MAX_DIGITS.false (elim c.else-first-eq48.branch [
      | else-first-eq48-via-then-first-eq48+else-field-gt1 w ↦ inl w.if-field-gt1.false
      | else-first-eq48-via-else-first-eq48 w ↦ inr (λ e. w.if-first-eq48.false (here ∙ e))
    ]))
