-- The lines of the first i rows stand at the front of the buffer, and the next goes into what remains of it.
use Rattle.report.specs.Put.{Put}
use Rattle.graphlines.specs.Rows.{row_lines}
use Rattle.graphlines.proofs.put_rows.Given as goal

abbrev pub invariant-loop-i : goal.invariant-loop-i
invariant-loop-i l = Put (row_lines l.width l.front l.table l.i) l.initial.out l.out l.at
