-- The invariant is NodesPut.
use Rattle.sheettables.proofs.Passes.{NodesPut}
use Rattle.sheettables.proofs.put_nodes.Given as goal

abbrev pub invariant-loop-range : goal.invariant-loop-range
invariant-loop-range l = NodesPut l.ranges l.kind l.initial.nodes l.at l.nodes l.next l.range-index
