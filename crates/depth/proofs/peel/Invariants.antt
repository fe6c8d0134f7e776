-- The invariant: so many rounds are done. The measure is the edges that are left over.
use Rattle.depth.proofs.Peeling.{Peeling}
use Rattle.depth.proofs.peel.Given as goal

abbrev pub invariant-loop-left : goal.invariant-loop-left
invariant-loop-left l = Peeling l.edges l.initial.order l.rest l.marks l.order l.left l.round

abbrev pub decreases-loop-left : goal.decreases-loop-left
decreases-loop-left l = l.left
