-- The numbers that are written are those of the line.
use Rattle.reporting.specs.Lines.{line_of_number}
use Rattle.reporting.proofs.put_line.Goals as goal

pub put_numbers-requires : goal.put_numbers-requires
unfolding line_of_number
put_numbers-requires c = rw c.line_numbers-numbers.ensures c.requires

pub returns : goal.returns
unfolding line_of_number
returns c = rw c.line_numbers-numbers.ensures at c.put_numbers.ensures
