-- Invariant: what is kept of the lines that were read, and those that are left, are the lines of the sheet. The measure is what is left of the text.
use Prim.Native.Nat.{◌-◌}
use lib.ListN.{length}
use Rattle.sides.specs.Given.{Clear}
use Rattle.sheetlines.proofs.Reading.{LinesLeft}
use Rattle.sheetlines.proofs.read_values.Given as goal

abbrev pub invariant-loop-c : goal.invariant-loop-c
invariant-loop-c l = Clear l.cs l.row × LinesLeft l.text l.cs l.initial.kept l.initial.c l.kept l.sizes l.c l.n

abbrev pub decreases-loop-c : goal.decreases-loop-c
decreases-loop-c l = length l.text - l.c.at
