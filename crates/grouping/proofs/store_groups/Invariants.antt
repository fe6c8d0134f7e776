-- The invariant is Storing.
use Rattle.grouping.proofs.Storing.{Storing}
use Rattle.grouping.proofs.store_groups.Given as goal

abbrev pub invariant-loop-row : goal.invariant-loop-row
invariant-loop-row l = Storing l.pairs l.initial.links l.links l.groups l.row
