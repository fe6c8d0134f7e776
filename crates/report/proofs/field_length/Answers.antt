-- A field that is not the first has a space before its number.
use mathlib.Core.Path.{◌≡◌, ap}
use native.Mathlib.Omega.{arith}
use lib.ListN.{length}
use mir.Facts.{to_z-of_z}
use Rattle.model.specs.Bytes.{shown}
use Rattle.report.proofs.Lines.{shown-short, field_first, field_later}
use Rattle.report.proofs.field_length.Goals.{After-number_length-n}
use Rattle.report.proofs.field_length.Goals as goal

counted : (c : After-number_length-n) → c.number_length-n.result ≡ length (shown c.args.v)
counted c = rw (to_z-of_z c.ranges.v) at c.number_length-n.ensures

pub returns-then-place-eq0 : goal.returns-then-place-eq0
returns-then-place-eq0 c =
    let s = c.args in
    omega (arith, counted (goal.at.returns-then-place-eq0 c).After-number_length-n, ap length (field_first s.place s.v c.if-place-eq0.true))

pub overflow_add-result : goal.overflow_add-result
overflow_add-result c = omega (arith, counted (goal.at.overflow_add-result c).After-number_length-n, shown-short c.args.v)

pub returns-else-place-eq0 : goal.returns-else-place-eq0
returns-else-place-eq0 c =
    let s = c.args in
    omega (arith, counted (goal.at.returns-else-place-eq0 c).After-number_length-n, ap length (field_later s.place s.v c.if-place-eq0.false))
