-- The numbers that are measured are those of the line.
use Rattle.reporting.specs.Lines.{line_of_number}
use Rattle.reporting.proofs.line_length.Goals as goal

pub returns : goal.returns
unfolding line_of_number
returns c = rw c.line_numbers-numbers.ensures at c.numbers_length.ensures
