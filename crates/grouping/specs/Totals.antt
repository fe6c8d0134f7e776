-- Counts of nodes, summed over the banks of a group. Assumes nothing.
use Rattle.std.specs.Prelude.{List, [], ◌∷◌, ℕ, ◌+◌, ◌*◌, ◌≤◌, ℤ, length}
use Rattle.lists.specs.Lists.{◌∈◌}
use Rattle.model.specs.Limits.{pair_width, max_pairs, max_paths}
use Rattle.model.specs.Rows.{Pair, pair_rows}
use Rattle.depth.specs.Passes.{Within}
use Rattle.reach.specs.Links.{count_at}
use Rattle.grouping.specs.Links.{Linked}

-- the counts at the implementation leaves of leaf rows, together
unfoldable pub bank_total : List ℕ → List Pair → ℕ
bank_total counts [] = 0
bank_total counts (p ∷ ps) = count_at counts p.impl + bank_total counts ps

-- what such a sum starts from: the groups linked, few rows, and at each implementation leaf a count that is stopped one past the limit on paths
pub record Summable (pairs : List ℤ) (links counts : List ℕ) : Type 0 where
  pub linked : Linked pairs links
  pub rows : length pairs ≤ pair_width * max_pairs
  pub within : (p : Pair) → p ∈ pair_rows pairs → Within (length counts) p.impl
  pub stopped : (p : Pair) → p ∈ pair_rows pairs → count_at counts p.impl ≤ max_paths + 1
