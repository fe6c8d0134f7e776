-- The lines of the numbers passed stand at the front of the buffer, and the next goes into what remains of it.
use lib.ListN.{take}
use Rattle.report.specs.Put.{Put}
use Rattle.reporting.specs.Lines.{lines_of}
use Rattle.reporting.proofs.put_lines.Given as goal

abbrev pub invariant-loop-number : goal.invariant-loop-number
invariant-loop-number l = Put (lines_of (take l.number-index l.lines)) l.initial.out l.out l.at
