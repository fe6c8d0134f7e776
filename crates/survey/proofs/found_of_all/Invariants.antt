-- The invariant: the findings of the root rows passed are kept.
use Rattle.model.specs.Compare.{findings}
use Rattle.pairing.specs.Pairs.{tables_of}
use Rattle.rootrows.proofs.Passing.{Passed}
use Rattle.survey.proofs.Passing.{findings_left}
use Rattle.survey.proofs.found_of_all.Given as goal

abbrev pub invariant-loop-row : goal.invariant-loop-row
invariant-loop-row l =
    let t = tables_of l.spec_nodes l.spec_edges l.impl_nodes l.impl_edges l.root_pairs l.leaf_pairs in
    Passed (findings t) (findings_left t l.row) l.lines l.kept
