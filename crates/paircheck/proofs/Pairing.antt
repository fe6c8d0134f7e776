-- The check of a pairing: whether a table has a row, the rows by the classes of all nodes, and all of it before the paths of each visit.
use mathlib.Core.Path.{◌≡◌}
use mathlib.Core.Bool.{Bool, true, false}
use mathlib.Core.List.{List}
use Prim.Native.Nat.{◌≤◌, ◌<◌}
use native.Mathlib.Omega.{arith}
use lib.Dec.{ltb}
use lib.IntN.{ℤ}
use lib.ListN.{length}
use Rattle.integers.proofs.Tests.{Test, passed, failed, ltb?}
use Rattle.lists.specs.Lists.{is_nil}
use Rattle.model.specs.Limits.{pair_width}
use Rattle.model.specs.Rows.{pair_rows}
use Rattle.model.specs.Compare.{Tables, spec_graph, impl_graph, root_rows, groups, visits}
use Rattle.model.specs.Checks.{◌then◌, first_refusal, check_visit, check_pairing}
use Rattle.model.proofs.Checks.{then_assoc}
use Rattle.tables.proofs.Rows.{pairs-rest, pairs_end}
use Rattle.paircheck.specs.Classes.{classes_of}
use Rattle.paircheck.specs.Pairing.{check_sizes, check_classified, check_pairing_rows}
use Rattle.paircheck.proofs.Classes.{class_root, class_leaf}

-- there is no row exactly where there are fewer numbers than in one
pub none_rows : (ps : List ℤ) → is_nil (pair_rows ps) ≡ ltb (length ps) pair_width
unfolding is_nil
none_rows ps = go (ltb (length ps) pair_width) (ltb? (length ps) pair_width)
  where
    go : (t : Bool) → Test (length ps < pair_width) (pair_width ≤ length ps) t → is_nil (pair_rows ps) ≡ t
    go true (passed h) = rw (pairs_end ps 0 (omega arith))
    go false (failed h) = rw (pairs-rest ps 0 (omega arith))

-- the rows of both pair tables, checked by the classes of all nodes, are checked for roots and for leaves
pub check_pairing_classified : (t : Tables)
    → check_pairing_rows t
    ≡ check_sizes t.root_pairs t.leaf_pairs
    then check_classified (classes_of (spec_graph t)) (classes_of (impl_graph t)) t.root_pairs t.leaf_pairs
unfolding check_pairing_rows check_classified
check_pairing_classified t =
    rw (
      class_root t.spec_nodes t.spec_edges,
      class_root t.impl_nodes t.impl_edges,
      class_leaf t.spec_nodes t.spec_edges,
      class_leaf t.impl_nodes t.impl_edges,
    )

-- the check of a pairing: its tables row by row, then the paths of each visit
pub check-pairing-rows : (t : Tables) → check_pairing t ≡ check_pairing_rows t then first_refusal (check_visit t) (visits (root_rows t) (groups t))
unfolding check_pairing check_pairing_rows check_sizes
check-pairing-rows t = simp then_assoc
