-- The invariant is Passed.
use Rattle.forward.proofs.Leading.{Passed}
use Rattle.forward.proofs.mark_leading.Given as goal

abbrev pub invariant-loop-e : goal.invariant-loop-e
invariant-loop-e l = Passed l.edges l.order l.initial.marks l.marks l.e-index
