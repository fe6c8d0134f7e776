use mathlib.Core.Path.{◌≡◌}
use lib.Seq.{paste}
use Rattle.sides.specs.Given.{row_numbers}
use Rattle.sides.proofs.store.Given as goal

-- Invariant: j numbers of the row stand behind n numbers of the table.
abbrev pub invariant-loop-j : goal.invariant-loop-j
invariant-loop-j l = l.table ≡ paste l.initial.table l.n (row_numbers l.cs l.row) l.j
