-- Each call answers one of the four checks; the answers are joined in their order.
use mathlib.Core.List.{List}
use mathlib.Core.Path.{◌≡◌, refl, sym, ◌∙◌}
use lib.IntN.{ℤ}
use Rattle.std.proofs.lemmas.Result.{err_from_is_err_and}
use Rattle.model.specs.Limits.{pair_width, max_pairs}
use Rattle.model.specs.Checks.{◌then◌, check_shape}
use Rattle.tables.proofs.Checks.{then_on, then_stops}
use Rattle.paircheck.specs.Pairing.{check_some, check_sizes}
use Rattle.paircheck.proofs.check_sizes.Goals as goal

-- the four checks
sizes-all : (roots leaves : List ℤ) → check_sizes roots leaves
    ≡ check_shape 4 pair_width max_pairs roots then check_shape 5 pair_width max_pairs leaves then check_some 4 roots then check_some 5 leaves
unfolding check_sizes
sizes-all roots leaves = refl

pub returns-in_err-check_shape : goal.returns-in_err-check_shape
returns-in_err-check_shape c =
    let p = err_from_is_err_and c.from_residual.result c.from_residual.ensures.1 in
    rw (p.1, p.2, sizes-all) (then_stops _ _ c.in_err-check_shape.ensures)

pub returns-in_err-check_shape-2 : goal.returns-in_err-check_shape-2
returns-in_err-check_shape-2 c =
    let p = err_from_is_err_and c.from_residual-in_err-check_shape-2.result c.from_residual-in_err-check_shape-2.ensures.1 in
    rw (p.1, p.2, sizes-all) (then_stops _ _ c.in_err-check_shape-2.ensures ∙ sym (then_on _ _ c.in_ok-check_shape.ensures))

pub returns-in_err-check_some : goal.returns-in_err-check_some
returns-in_err-check_some c =
    let p = err_from_is_err_and c.from_residual-in_err-check_some.result c.from_residual-in_err-check_some.ensures.1 in
    rw (p.1, p.2, sizes-all)
    (then_stops _ _ c.in_err-check_some.ensures ∙ sym (then_on _ _ c.in_ok-check_shape.ensures ∙ then_on _ _ c.in_ok-check_shape-2.ensures))

pub returns : goal.returns
returns c =
    rw sizes-all
    (c.check_some-2.ensures ∙ sym (then_on _ _ c.in_ok-check_shape.ensures ∙ then_on _ _ c.in_ok-check_shape-2.ensures ∙ then_on _ _ c.in_ok-check_some.ensures))
