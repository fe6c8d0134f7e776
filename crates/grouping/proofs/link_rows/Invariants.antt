-- The invariant is Linking.
use lib.ListN.{length}
use Rattle.grouping.proofs.Linking.{Linking}
use Rattle.grouping.proofs.link_rows.Given as goal

abbrev pub invariant-loop-row : goal.invariant-loop-row
invariant-loop-row l = Linking l.pairs (length l.initial.head) l.head l.links l.row
