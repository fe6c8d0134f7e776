-- The first i fields stand at the front of the buffer, and the next goes into what remains of it.
use Rattle.report.specs.Put.{Put}
use Rattle.report.proofs.Lines.{fields}
use Rattle.report.proofs.put_numbers.Given as goal

abbrev pub invariant-loop-i : goal.invariant-loop-i
invariant-loop-i l = Put (fields l.i l.vs) l.initial.out l.out l.at
