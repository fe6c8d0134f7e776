-- The invariant: the first refusal of all groups is that of the groups from the next on.
use lib.ListN.{drop}
use Rattle.model.specs.Rows.{pair_rows}
use Rattle.model.specs.Compare.{lowest_rows}
use Rattle.tables.proofs.Checks.{Left}
use Rattle.pathlimit.specs.Checks.{check_group}
use Rattle.pathlimit.proofs.check_groups.Given as goal

abbrev pub invariant-loop-k : goal.invariant-loop-k
invariant-loop-k l =
    Left (check_group (pair_rows l.leaf_pairs) l.spec_counts l.impl_counts l.root_row) (lowest_rows (pair_rows l.leaf_pairs)) (drop l.k (lowest_rows (pair_rows l.leaf_pairs)))
