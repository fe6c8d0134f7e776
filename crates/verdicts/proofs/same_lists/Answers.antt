use Rattle.std.proofs.Common.{int_eq}
use Rattle.std.proofs.lemmas.Bool.{not-false, not-true}
use Rattle.std.proofs.lemmas.Grind.{common_steps}
use mathlib.Core.Path.{◌≡◌, refl, sym, ap, ap₂, ◌∙◌}
use mathlib.Core.Bool.{not, ◌&&◌}
use native.Mathlib.Omega.{arith}
use Rattle.model.specs.Verdicts.{same_record}
use Rattle.normalisation.specs.Records.{record_at}
use Rattle.normalisation.proofs.Records.{records_from-start}
use Rattle.verdicts.proofs.Turns.{same-sizes, same_more, same-other, same_none}
use Rattle.verdicts.specs.declared.Record as code
use Rattle.verdicts.specs.Records.{as_record}
use Rattle.verdicts.proofs.same_lists.Goals.{After-ne}
use Rattle.verdicts.proofs.same_lists.Goals as goal

-- the test that is derived
differ : (r s : code.Record) → not (int_eq r.first s.first && (int_eq r.last s.last && int_eq r.displacement s.displacement)) ≡ not (same_record (as_record r) (as_record s))
unfolding same_record
differ r s = grind (arith, common_steps)

-- what the test on two records says
test : (c : After-ne) → c.ne.result ≡ not (same_record (record_at c.args.a.now c.loop-i.i) (record_at c.args.b.now c.loop-i.i))
test c = c.ne.ensures ∙ differ c.record_at.result c.record_at-in-loop-i.result ∙ ap not (ap₂ same_record c.record_at.ensures c.record_at-in-loop-i.ensures)

pub returns-then-na-nb : goal.returns-then-na-nb
returns-then-na-nb c = sym (same-sizes c.args.a.now c.args.b.now c.args.na c.args.nb c.if-na-nb.true)

pub loop-i-init : goal.loop-i-init
loop-i-init c =
    rw (records_from-start c.args.a.now c.args.na, records_from-start c.args.b.now c.args.na, c.if-na-nb.false) refl

pub loop-i-preserved : goal.loop-i-preserved
loop-i-preserved c =
    c.loop-i.invariant ∙ same_more c.args.a.now c.args.b.now c.args.na c.loop-i.i c.loop-i-test.true (not-false _ (sym (test (goal.at.loop-i-preserved c).After-ne) ∙ c.if-ne.false))

pub returns-then-ne : goal.returns-then-ne
returns-then-ne c =
    sym (c.loop-i.invariant ∙ same-other c.args.a.now c.args.b.now c.args.na c.loop-i.i c.loop-i-test.true (not-true _ (sym (test (goal.at.returns-then-ne c).After-ne) ∙ c.if-ne.true)))

pub returns : goal.returns
returns c =
    sym (c.loop-i.invariant ∙ same_none c.args.a.now c.args.b.now c.args.na c.loop-i.i (omega arith))
