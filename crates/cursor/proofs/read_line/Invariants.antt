use Rattle.cursor.proofs.ValueLines.{LineState}
use Rattle.cursor.proofs.read_line.Given as goal

-- Invariant: the values read and those that are due are the values of the line.
abbrev pub invariant-loop-i : goal.invariant-loop-i
invariant-loop-i l = LineState l.text l.width l.initial.row l.initial.c l.row l.c l.i
