-- Each return is the law of the verdict that is given there.
use mathlib.Core.Path.{sym, ◌∙◌}
use mathlib.Core.Logic.{◌≢◌}
use Rattle.normalisation.specs.Merging.{displaced_of}
use Rattle.judging.proofs.Judging.{rows_same, rows_unlike, rows_length, judged-equal, judged-empty, judged-within, judged_beyond}
use Rattle.judging.proofs.verdict_of_rows.Goals.{Else-same_lists}
use Rattle.judging.proofs.verdict_of_rows.Goals as goal

-- past the first test
unlike : (c : Else-same_lists) → displaced_of c.args.spec.now c.args.ns ≢ displaced_of c.args.imp.now c.args.ni
unlike c =
    rows_unlike c.args.spec.now c.args.imp.now c.args.ns c.args.ni (sym c.same_lists.ensures ∙ c.if-same_lists.false)

pub returns-then-same_lists : goal.returns-then-same_lists
returns-then-same_lists c l m p q e f =
    judged-equal p q e f
    (rows_same c.args.spec.now c.args.imp.now c.args.ns c.args.ni (sym c.same_lists.ensures ∙ c.if-same_lists.true))

pub returns-then-ni-eq0 : goal.returns-then-ni-eq0
returns-then-ni-eq0 c l m p q e f =
    judged-empty p q e f (unlike (goal.at.returns-then-ni-eq0 c).Else-same_lists) (rows_length c.args.imp.now c.args.ni ∙ c.if-ni-eq0.true)

pub returns-then-contains_all : goal.returns-then-contains_all
returns-then-contains_all c l m p q e f =
    judged-within p q e f (unlike (goal.at.returns-then-contains_all c).Else-same_lists) (λ z. c.if-ni-eq0.false (sym (rows_length c.args.imp.now c.args.ni) ∙ z))
    (sym c.contains_all.ensures ∙ c.if-contains_all.true)

pub returns : goal.returns
returns c l m p q e f =
    judged_beyond p q e f (unlike (goal.at.returns c).Else-same_lists) (sym c.contains_all.ensures ∙ c.if-contains_all.false)
