-- What each pass that links the groups asks and leaves. Assumes nothing.
use Rattle.std.specs.Prelude.{◌≡◌, List, map, ℕ, suc, ◌*◌, ◌/◌, ◌≤◌, ◌<◌, ℤ, pos, length, get_or, set}
use Rattle.std.proofs.lemmas.List.Edits.{sets}
use Rattle.lists.specs.Lists.{◌∈◌}
use Rattle.model.specs.Limits.{pair_width, max_pairs}
use Rattle.model.specs.Rows.{Pair, pair_rows}
use Rattle.model.specs.Compare.{same_spec, lowest_rows}
use Rattle.tables.specs.Tables.{pair_at}
use Rattle.depth.specs.Passes.{Within}
use Rattle.reach.specs.Links.{first_row}
use Rattle.grouping.specs.Links.{count_at, link_room, next_row}

-- ---- heads: a number for each node

-- the specification leaf of every leaf row is one of so many nodes
abbrev pub LeavesWithin : List ℤ → ℕ → Type 0
LeavesWithin pairs nodes = (p : Pair) → p ∈ pair_rows pairs → Within nodes p.spec

-- the head of the specification leaf of each leaf row is the lowest row from row k on that has this leaf, the number of leaf rows where there is none
pub record HeadsFrom (pairs : List ℤ) (k : ℕ) (head : List ℕ) : Type 0 where
  pub each : (j v : ℕ) → j < length pairs / pair_width → pos v ≡ (pair_at pairs j).spec
      → get_or head v 0 ≡ first_row (same_spec (pair_at pairs j)) k (pair_rows pairs)

-- few leaf pairs, heads as they are from row k on, and room for the links
pub record Headed (pairs : List ℤ) (k : ℕ) (head links : List ℕ) : Type 0 where
  pub few : length pairs ≤ pair_width * max_pairs
  pub within : LeavesWithin pairs (length head)
  pub heads : HeadsFrom pairs k head
  pub room : length links ≡ link_room

-- ---- the rows of each group, linked

-- each head is the lowest row of a group, and each leaf row has the next row of its group
pub record RowsLinked (pairs : List ℤ) (head links : List ℕ) : Type 0 where
  pub heads : HeadsFrom pairs 0 head
  pub nexts : (j : ℕ) → j < length pairs / pair_width → next_row links j ≡ first_row (same_spec (pair_at pairs j)) (suc j) (pair_rows pairs)

-- ---- the lowest row of each group, stored

-- the numbers of the lowest rows of groups
unfoldable pub lowest_numbers : List ℤ → List ℕ
lowest_numbers pairs = map (λ p. p.row) (lowest_rows (pair_rows pairs))

-- links that held `links`, with these rows in front, and their number
unfoldable pub links_with : List ℕ → List ℕ → List ℕ
links_with rows links = set (sets links 0 rows) count_at (length rows)
