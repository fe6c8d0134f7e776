-- The groups of leaf rows, linked in one slice of numbers. Assumes nothing.
use Rattle.std.specs.Prelude.{◌≡◌, ◌⊎◌, List, map, ℕ, suc, ◌+◌, ◌*◌, ◌/◌, ◌≤◌, ◌<◌, ℤ, length, get_or, take}
use Rattle.lists.specs.Lists.{◌∈◌, keep}
use Rattle.model.specs.Limits.{pair_width, max_pairs, max_nodes}
use Rattle.model.specs.Rows.{Pair, pair_rows}
use Rattle.model.specs.Compare.{same_spec, lowest_rows}
use Rattle.tables.specs.Tables.{pair_at}
use Rattle.depth.specs.Passes.{Within}
use Rattle.reach.specs.Links.{first_row}

-- ---- the links

-- where their parts begin: in front the lowest row of each group, in order; then for each leaf row the next row of its group, the number of leaf rows where there
-- is none; last how many groups there are
abbrev pub next_at : ℕ
next_at = max_pairs

abbrev pub count_at : ℕ
count_at = max_pairs + max_pairs

abbrev pub link_room : ℕ
link_room = max_pairs + max_pairs + 1

-- how many groups there are
abbrev pub group_count : List ℕ → ℕ
group_count links = get_or links count_at 0

-- the lowest row of group k
abbrev pub group_row : List ℕ → ℕ → ℕ
group_row links k = get_or links k 0

-- the row behind row j in its group
abbrev pub next_row : List ℕ → ℕ → ℕ
next_row links j = get_or links (next_at + j) 0

-- the groups of the leaf pairs are linked
pub record Linked (pairs : List ℤ) (links : List ℕ) : Type 0 where
  pub room : length links ≡ link_room
  pub count : group_count links ≡ length (lowest_rows (pair_rows pairs))
  pub rows : map (pair_at pairs) (take (group_count links) links) ≡ lowest_rows (pair_rows pairs)
  pub nexts : (j : ℕ) → j < length pairs / pair_width → next_row links j ≡ first_row (same_spec (pair_at pairs j)) (suc j) (pair_rows pairs)

-- what linking starts from: few leaf pairs, whose specification leaves are nodes, and room
pub record Linkable (pairs : List ℤ) (links : List ℕ) : Type 0 where
  pub few : length pairs ≤ pair_width * max_pairs
  pub within : (p : Pair) → p ∈ pair_rows pairs → Within max_nodes p.spec
  pub room : length links ≡ link_room

-- ---- going through a group

-- of the group of leaf row l, `done` are the rows before row j; row j is the next, or the number of leaf rows where there is none
pub record Passing (pairs : List ℤ) (l : Pair) (done : List Pair) (j : ℕ) : Type 0 where
  pub before : done ≡ keep (same_spec l) (take j (pair_rows pairs))
  pub next : (j ≡ length pairs / pair_width) ⊎ ((j < length pairs / pair_width) × ((pair_at pairs j).spec ≡ l.spec))
