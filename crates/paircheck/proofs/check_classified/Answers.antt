-- The answers of the two calls are joined in their order.
use mathlib.Core.Path.{sym, ◌∙◌}
use Rattle.std.proofs.lemmas.Result.{err_from_is_err_and}
use Rattle.tables.proofs.Checks.{then_on, then_stops}
use Rattle.paircheck.specs.Pairing.{check_classified}
use Rattle.paircheck.proofs.check_classified.Goals as goal

pub returns-in_err-check_pairs : goal.returns-in_err-check_pairs
unfolding check_classified
returns-in_err-check_pairs c =
    let p = err_from_is_err_and c.from_residual.result c.from_residual.ensures.1 in
    rw (p.1, p.2) (then_stops _ _ c.in_err-check_pairs.ensures)

pub returns : goal.returns
unfolding check_classified
returns c = c.check_pairs-2.ensures ∙ sym (then_on _ _ c.in_ok-check_pairs.ensures)
