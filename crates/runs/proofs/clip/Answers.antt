-- The ends are the higher of the low ends and the lower of the high ends. Where they have not crossed, the root bit is as far above the old
-- one as the low end, and that fits. What is returned stands first: a wrong end or root bit is refused there.
use Rattle.std.specs.Prelude.{Some}
use mathlib.Core.Path.{refl, sym, ap, ◌∙◌}
use Rattle.runs.specs.Clipping.{run_of, living}
use Rattle.runs.proofs.Runs.{lower_true, lower_false, living-empty, living-full, clip-ends, clip-exact}
use Rattle.runs.proofs.clip.Goals as goal

pub returns-then-lt-clause-result_value : goal.returns-then-lt-clause-result_value
returns-then-lt-clause-result_value c =
    let crossed = lower_true _ _ (sym c.lt.ensures ∙ c.if-lt.true) in
    living-empty _ crossed ∙ ap living (clip-ends c.args.first.0 c.args.last.0 (run_of c.args.run) c.higher-low.ensures c.lower-high.ensures refl refl)

pub returns : goal.returns
returns c =
    let a = c.args in
    let ordered = lower_false _ _ (sym c.lt.ensures ∙ c.if-lt.false) in
    let left = living-full _ ordered ∙ ap living (clip-ends a.first.0 a.last.0 (run_of a.run) c.higher-low.ensures c.lower-high.ensures c.less.ensures c.plus.ensures) in
    record { result_value = left; clipped_to = clip-exact a.first.0 a.last.0 (run_of a.run) (Some _) left }
