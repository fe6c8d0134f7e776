-- Refusal 10 root row by root row, and by the counts of the paths from the roots of a row. Assumes nothing.
use Rattle.std.specs.Prelude.{List, ℕ, ◌+◌, ◌*◌, ◌<◌, ltb, ℤ, length}
use Rattle.std.proofs.Math.Option.{Option}
use Rattle.lists.specs.Lists.{◌∈◌}
use Rattle.model.specs.Limits.{max_pairs, max_paths, root_stride}
use Rattle.model.specs.Rows.{Pair, pair_rows}
use Rattle.model.specs.Compare.{Tables, group, groups, all_visits}
use Rattle.model.specs.Refusals.{Refusal}
use Rattle.model.specs.Checks.{when, ◌then◌, first_refusal, check_visit}
use Rattle.depth.specs.Passes.{Within}
use Rattle.reach.specs.Links.{count_at}
use Rattle.grouping.specs.Totals.{bank_total, Summable}

-- ---- the check of all pairs

-- refusal 10: the first pair in visiting order with more than 1,024 paths
abbrev pub check_paths : Tables → Option Refusal
check_paths t = first_refusal (check_visit t) (all_visits t)

-- ---- the check of one root row

-- refusal 10 of a root row with the groups one after the other
unfoldable pub check_row : Tables → Pair → Option Refusal
check_row t r = first_refusal (λ l. check_visit t (record { root = r; leaf = l })) (groups t)

-- refusal 10 of a pair at a place in visiting order, by the counts of its paths: the specification's edges before the implementation's
unfoldable pub check_counts : ℕ → ℕ → ℕ → Option Refusal
check_counts place spec impl = when (ltb max_paths spec) 10 1 place then when (ltb max_paths impl) 10 3 place

-- refusal 10 of root row i with the group whose lowest row is l, by the counts of the paths from the roots of row i: at its specification leaf, and at its banks together
unfoldable pub check_group : List Pair → List ℕ → List ℕ → ℕ → Pair → Option Refusal
check_group leaves specCounts implCounts i l =
    check_counts (i * root_stride + l.row) (count_at specCounts l.spec) (bank_total implCounts (group leaves l))

-- what the groups are checked from: the groups linked, few root rows, a count for each specification leaf, and counts that can be summed over banks
pub record GroupsCounted (leaf_pairs : List ℤ) (links : List ℕ) (root_row : ℕ) (specCounts implCounts : List ℕ) : Type 0 where
  pub row : root_row < max_pairs
  pub within : (p : Pair) → p ∈ pair_rows leaf_pairs → Within (length specCounts) p.spec
  pub sums : Summable leaf_pairs links implCounts
