-- The invariant is Linking.
use Rattle.forward.proofs.Links.{Linking}
use Rattle.forward.proofs.link_entering.Given as goal

abbrev pub invariant-loop-e : goal.invariant-loop-e
invariant-loop-e l = Linking l.nodes l.edges l.initial.plan l.plan l.e
