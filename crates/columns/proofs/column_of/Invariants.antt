use Rattle.columns.proofs.Names.{NameLeft}
use Rattle.columns.proofs.column_of.Given as goal

-- Invariant: the name is none of the fields before this one.
abbrev pub invariant-loop-i : goal.invariant-loop-i
invariant-loop-i l = NameLeft l.text l.name l.from l.at l.i
