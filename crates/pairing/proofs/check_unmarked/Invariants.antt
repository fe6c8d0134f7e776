-- Invariant: the rows before k are not refused, and exactly their nodes have their marks (Passed).
use Rattle.pairing.proofs.Marks.{Passed}
use Rattle.pairing.proofs.check_unmarked.Given as goal

abbrev pub invariant-loop-k : goal.invariant-loop-k
invariant-loop-k l = Passed l.pairs l.table l.wanted l.most l.spec_once l.spec_class l.impl_class l.spec_marks l.impl_marks l.k
