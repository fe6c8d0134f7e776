-- The code fits, and so does its negation.
use Rattle.integers.proofs.Negation.{negated_fits}
use Rattle.refusals.proofs.Codes.{negated_code}
use Rattle.refusals.proofs.negative_code.Goals as goal

pub overflow_sub-result : goal.overflow_sub-result
overflow_sub-result c = negated_fits c.refusal_code-code.ensures.1

pub returns : goal.returns
returns c = negated_code _ c.refusal_code-code.ensures.1 c.refusal_code-code.ensures.0
