-- The invariant is Storing.
use Rattle.forward.proofs.Stored.{Storing}
use Rattle.forward.proofs.store_leading.Given as goal

abbrev pub invariant-loop-i : goal.invariant-loop-i
invariant-loop-i l = Storing l.edges l.order l.marks l.initial.plan l.plan l.leading l.i
