-- The address is compared with the first and the last bit of the node.
use mathlib.Core.Path.{sym, ◌∙◌}
use Rattle.extents.proofs.Bounds.{lowest_test, stands-below, stands-above}
use Rattle.extents.proofs.stands.Goals as goal

pub returns-then-le : goal.returns-then-le
returns-then-le c es =
    let a = c.args.a.0 in
    let x = c.open_extent.result in
    c.le-then-le.ensures
    ∙ lowest_test a x.last.0
    ∙ stands-above a (c.open_extent.ensures es) (sym (lowest_test x.first.0 a) ∙ sym c.le.ensures ∙ c.if-le.true)

pub returns-else-le : goal.returns-else-le
returns-else-le c es =
    let a = c.args.a.0 in
    c.if-le.false ∙ stands-below a (c.open_extent.ensures es) (sym (lowest_test c.open_extent.result.first.0 a) ∙ sym c.le.ensures ∙ c.if-le.false)
