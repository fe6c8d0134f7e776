-- The refusals of the two checks in their order.
use mathlib.Core.Path.{sym, ◌∙◌}
use mir.Facts.{to_z-of_z}
use Rattle.std.proofs.lemmas.Result.{err_from_is_err_and}
use Rattle.tables.proofs.Checks.{then_on, then_stops}
use Rattle.pairing.proofs.check_row.Goals as goal

pub returns-in_err-check_at : goal.returns-in_err-check_at
returns-in_err-check_at c =
    let p = err_from_is_err_and c.from_residual.result c.from_residual.ensures.1 in
    rw (p.1, p.2) (then_stops _ _ (rw (to_z-of_z c.ranges.most) at c.in_err-check_at.ensures))

pub returns : goal.returns
returns c = c.check_marks.ensures ∙ sym (then_on _ _ (rw (to_z-of_z c.ranges.most) at c.in_ok-check_at.ensures))
