-- The texts and the result's line.
use mathlib.Core.Path.{◌≡◌}
use native.Mathlib.Omega.{arith}
use lib.ListN.{length}
use Rattle.model.specs.Answers.{comparison_result}
use Rattle.model.specs.Report.{result_line}
use Rattle.reporting.proofs.Parts.{fixed_length, result-short}
use Rattle.reporting.proofs.fixed_length.Goals.{After-numbers_length}
use Rattle.reporting.proofs.fixed_length.Goals as goal

-- the numbers that are measured are those of the result's line
measured : (c : After-numbers_length) → c.numbers_length.result ≡ length (result_line (comparison_result c.args.res))
unfolding result_line
measured c = rw c.result_numbers-numbers.ensures at c.numbers_length.ensures

pub overflow_add-result-2 : goal.overflow_add-result-2
overflow_add-result-2 c = omega (arith, measured c, result-short (comparison_result c.args.res))

pub returns : goal.returns
returns c = omega (arith, measured c, fixed_length (comparison_result c.args.res))
