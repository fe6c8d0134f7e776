-- The invariant: the lines of the root rows passed are written.
use Rattle.pairing.specs.Pairs.{tables_of}
use Rattle.survey.proofs.Putting.{Putting}
use Rattle.survey.proofs.put_rows.Given as goal

abbrev pub invariant-loop-row : goal.invariant-loop-row
invariant-loop-row l =
    Putting (tables_of l.spec_nodes l.spec_edges l.impl_nodes l.impl_edges l.root_pairs l.leaf_pairs) l.row l.initial.out l.out l.at
