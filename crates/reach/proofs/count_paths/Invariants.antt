-- The invariant is Passed.
use Rattle.reach.proofs.Pass.{Passed}
use Rattle.reach.proofs.count_paths.Given as goal

abbrev pub invariant-loop-e : goal.invariant-loop-e
invariant-loop-e l = Passed l.nodes l.edges l.order l.leaf l.initial.counts l.counts l.e-index
