-- The first test is on the displacements, the second on the root bits of the same row; together they are containment.
use mathlib.Core.Path.{◌≡◌, sym, ap, ◌∙◌}
use mathlib.Core.Bool.{◌&&◌}
use lib.Signed.{le_z}
use Rattle.integers.specs.Integers.{eq_z}
use Rattle.sorting.specs.declared.Row.{Row}
use Rattle.sorting.specs.Rows.{row_at}
use Rattle.normalisation.specs.Merging.{of_displacement}
use Rattle.containment.proofs.Tests.{contained_unlike, contained_like}
use Rattle.containment.proofs.contained_in.Goals.{After-same_displacement}
use Rattle.containment.proofs.contained_in.Goals as goal

-- what the first test says
displacement-test : (c : After-same_displacement) → c.same_displacement.result ≡ eq_z c.args.r.first (row_at c.args.t.now c.args.i).first
displacement-test c =
    c.same_displacement.ensures ∙ ap (λ (q : Row). eq_z c.args.r.first q.first) c.row_at-s.ensures

pub returns-then-same_displacement : goal.returns-then-same_displacement
returns-then-same_displacement c =
    let row = row_at c.args.t.now c.args.i in
    let test = c.root_bits_within.ensures ∙ ap (λ (q : Row). le_z q.second c.args.r.second && le_z c.args.r.third q.third) c.row_at-s.ensures in
    test ∙ sym (contained_like (of_displacement c.args.r) (of_displacement row) (sym (displacement-test (goal.at.returns-then-same_displacement c).After-same_displacement) ∙ c.if-same_displacement.true))

pub returns-else-same_displacement : goal.returns-else-same_displacement
returns-else-same_displacement c =
    c.if-same_displacement.false ∙ sym (contained_unlike (of_displacement c.args.r) (of_displacement (row_at c.args.t.now c.args.i)) (sym (displacement-test (goal.at.returns-else-same_displacement c).After-same_displacement) ∙ c.if-same_displacement.false))
