-- The invariant is Linking.
use Rattle.reach.proofs.Links.{Linking}
use Rattle.reach.proofs.link_edges.Given as goal

abbrev pub invariant-loop-e : goal.invariant-loop-e
invariant-loop-e l = Linking l.nodes l.edges l.counts l.initial.head l.initial.next l.head l.next l.e
