-- The invariant is Passed.
use Rattle.pathlimit.proofs.Pass.{Passed}
use Rattle.pathlimit.proofs.count_from.Given as goal

abbrev pub invariant-loop-i : goal.invariant-loop-i
invariant-loop-i l = Passed l.nodes l.edges l.plan l.root l.initial.counts l.counts l.i
