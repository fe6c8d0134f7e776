-- Invariant: the rows read, in the two tables, and those of the lines that are left are the rows of the table. The measure is what is left of the text.
use Prim.Native.Nat.{◌-◌}
use lib.ListN.{length}
use Rattle.sides.specs.Given.{Clear}
use Rattle.sides.proofs.TableRows.{RowsLeft}
use Rattle.sides.proofs.read_rows.Given as goal

abbrev pub invariant-loop-c : goal.invariant-loop-c
invariant-loop-c l =
    Clear l.cs l.row × RowsLeft l.text l.cs l.last l.room l.initial.first l.initial.second l.initial.c l.first l.second l.c l.counts.first l.counts.second

abbrev pub decreases-loop-c : goal.decreases-loop-c
decreases-loop-c l = length l.text - l.c.at
