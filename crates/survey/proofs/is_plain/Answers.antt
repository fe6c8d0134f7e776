-- Both tables are looked at where it is plain; where it is not, one of them has a node that may not be read and written.
use mathlib.Core.Path.{sym, ◌∙◌}
use mathlib.Core.Bool.{true≢false}
use mathlib.Core.List.{[]}
use Rattle.survey.proofs.is_plain.Goals as goal

pub returns-then-all_open : goal.returns-then-all_open
returns-then-all_open c = (
  λ e ses mes. (c.all_open.ensures.0 c.if-all_open.true ses, c.all_open-then-all_open.ensures.0 e mes),
  λ all. c.all_open-then-all_open.ensures.1 (λ es. (all [] es).1),
)

pub returns-else-all_open : goal.returns-else-all_open
returns-else-all_open c = (
  λ e. absurd (true≢false (sym e ∙ c.if-all_open.false)),
  λ all. c.all_open.ensures.1 (λ es. (all es []).0),
)
