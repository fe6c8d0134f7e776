use mathlib.Core.Path.{◌≡◌, refl, sym, ap, ◌∙◌}
use Rattle.sorting.specs.Rows.{row_at}
use Rattle.sorting.proofs.Tables.{rows_from_start}
use Rattle.sorting.specs.declared.Row.{Row}
use Rattle.model.specs.Verdicts.{contained}
use Rattle.normalisation.specs.Merging.{of_displacement}
use Rattle.containment.proofs.Turns.{contains_all-inside, contains_all-past, contains_all-none, contains_all_end}
use Rattle.containment.proofs.contains_all.Goals.{After-contained_in}
use Rattle.containment.proofs.contains_all.Goals as goal

-- what the test on two rows says
test : (c : After-contained_in) → c.contained_in.result
    ≡ contained (of_displacement (row_at c.args.imp.now c.loop-j.j)) (of_displacement (row_at c.args.spec.now c.loop-j.i))
test c =
    let row = row_at c.args.spec.now c.loop-j.i in
    c.contained_in.ensures ∙ ap (λ (r : Row). contained (of_displacement r) (of_displacement row)) c.row_at.ensures

pub loop-j-init : goal.loop-j-init
loop-j-init c = rw (rows_from_start c.args.spec.now c.args.ns, rows_from_start c.args.imp.now c.args.ni) refl

pub returns-then-ns-i : goal.returns-then-ns-i
returns-then-ns-i c =
    sym (c.loop-j.invariant
    ∙ contains_all-none c.args.spec.now c.args.imp.now c.args.ns c.args.ni c.loop-j.i c.loop-j.j c.if-ns-i.true c.loop-j-test.true)

pub loop-j-preserved-then-contained_in : goal.loop-j-preserved-then-contained_in
loop-j-preserved-then-contained_in c =
    c.loop-j.invariant
    ∙ contains_all-inside c.args.spec.now c.args.imp.now c.args.ns c.args.ni c.loop-j.i c.loop-j.j c.if-ns-i.false c.loop-j-test.true
    (sym (test (goal.at.loop-j-preserved-then-contained_in c).After-contained_in) ∙ c.if-contained_in.true)

pub loop-j-preserved : goal.loop-j-preserved
loop-j-preserved c =
    c.loop-j.invariant
    ∙ contains_all-past c.args.spec.now c.args.imp.now c.args.ns c.args.ni c.loop-j.i c.loop-j.j c.if-ns-i.false c.loop-j-test.true
    (sym (test (goal.at.loop-j-preserved c).After-contained_in) ∙ c.if-contained_in.false)

pub returns : goal.returns
returns c =
    sym (c.loop-j.invariant ∙ contains_all_end c.args.spec.now c.args.imp.now c.args.ns c.args.ni c.loop-j.i c.loop-j.j c.loop-j-test.false)
