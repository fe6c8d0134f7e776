-- The check of a pairing, but for the paths between paired nodes. Assumes nothing.
use Rattle.std.specs.Prelude.{List, ℕ, ℤ, pos}
use Rattle.std.proofs.Math.Option.{Option}
use Rattle.lists.specs.Lists.{is_nil}
use Rattle.model.specs.Limits.{pair_width, max_pairs, last_at}
use Rattle.model.specs.Rows.{pair_rows}
use Rattle.model.specs.Compare.{Tables, spec_graph, impl_graph}
use Rattle.model.specs.Refusals.{Refusal}
use Rattle.model.specs.Checks.{when, ◌then◌, check_shape, is_root, is_leaf, same_root, same_impl}
use Rattle.pairing.specs.Classes.{root, leaf, has_class}
use Rattle.pairing.specs.Pairs.{check_pairs}

-- refusal 9: a pair table without a row
abbrev pub check_some : ℕ → List ℤ → Option Refusal
check_some t ps = when (is_nil (pair_rows ps)) 9 t 0

-- refusals 1 and 9 of the tables of root pairs and of leaf pairs: shapes of 4 and 5, 9 for 4 and for 5
unfoldable pub check_sizes : List ℤ → List ℤ → Option Refusal
check_sizes roots leaves =
    check_shape 4 pair_width max_pairs roots then check_shape 5 pair_width max_pairs leaves then check_some 4 roots then check_some 5 leaves

-- refusals 7, 16 and 8 of the tables of root pairs and of leaf pairs, whose nodes have these classes
unfoldable pub check_classified : List ℕ → List ℕ → List ℤ → List ℤ → Option Refusal
check_classified spec impl roots leaves =
    check_pairs 4 (has_class spec root) (has_class impl root) (pos 0) same_root roots
    then check_pairs 5 (has_class spec leaf) (has_class impl leaf) last_at same_impl leaves

-- the check of a pairing but for its paths: sizes, rows of 4, rows of 5
unfoldable pub check_pairing_rows : Tables → Option Refusal
check_pairing_rows t =
    check_sizes t.root_pairs t.leaf_pairs
    then check_pairs 4 (is_root (spec_graph t)) (is_root (impl_graph t)) (pos 0) same_root t.root_pairs
    then check_pairs 5 (is_leaf (spec_graph t)) (is_leaf (impl_graph t)) last_at same_impl t.leaf_pairs
