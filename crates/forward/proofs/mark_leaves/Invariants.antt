-- The invariant: exactly the nodes of the rows passed are marked.
use mathlib.Core.Path.{◌≡◌}
use lib.ListN.{length}
use Rattle.forward.proofs.Leaves.{RowsMarked}
use Rattle.forward.proofs.mark_leaves.Given as goal

abbrev pub invariant-loop-k : goal.invariant-loop-k
invariant-loop-k l = (length l.marks ≡ length l.initial.marks) × RowsMarked l.pairs l.column l.marks l.k
