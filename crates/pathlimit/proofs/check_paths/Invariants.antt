-- Where neither plan has an edge no pair is refused. The invariant: the first refusal of all root rows is that of the rows from the next on.
use Prim.Native.Nat.{◌*◌}
use lib.ListN.{drop}
use Rattle.model.specs.Limits.{pair_width}
use Rattle.model.specs.Rows.{pairs_from, pair_rows}
use Rattle.tables.proofs.Checks.{Left}
use Rattle.pairing.specs.Pairs.{tables_of}
use Rattle.pathlimit.specs.Checks.{check_row}
use Rattle.pathlimit.proofs.check_paths.Given as goal

abbrev pub invariant-loop-root_row : goal.invariant-loop-root_row
invariant-loop-root_row l =
    Left (check_row (tables_of l.spec_nodes l.spec_edges l.impl_nodes l.impl_edges l.root_pairs l.leaf_pairs)) (pair_rows l.root_pairs)
    (pairs_from l.root_row (drop (pair_width * l.root_row) l.root_pairs))
