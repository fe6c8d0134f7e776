-- The sum is the code, negated, and small.
use native.Mathlib.Omega.{arith}
use Rattle.model.specs.TextCheck.{coded}
use Rattle.refusals.proofs.Codes.{negated_twice}
use Rattle.refusals.proofs.refusal_code.Goals as goal

pub returns : goal.returns
unfolding coded
returns c = (negated_twice _, omega arith)
