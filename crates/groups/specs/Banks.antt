-- The rows of the banks of a group, gathered in the free part of a swept state, and the list that they become. Assumes nothing.
use Rattle.std.specs.Prelude.{◌≡◌, List, [], map, ◌↔◌, ℕ, ◌+◌, ◌-◌, ◌*◌, ◌/◌, ◌≤◌, ◌<◌, ℤ, pos, ◌≤ℤ◌, length, take}
use Rattle.lists.specs.Lists.{◌∈◌}
use Rattle.model.specs.declared.WalkKind.{WalkKind}
use Rattle.model.specs.Limits.{pair_width, max_pairs, max_paths}
use Rattle.model.specs.Quantities.{Subtractable}
use Rattle.model.specs.Rows.{Pair, pair_rows}
use Rattle.model.specs.Graph.{graph_of}
use Rattle.model.specs.Paths.{Leaf}
use Rattle.model.specs.Bitmapping.{Record}
use Rattle.model.specs.Runs.{list_of}
use Rattle.model.specs.Groups.{Bank, GroupReached, raised_by, group_list, group_paths}
use Rattle.model.specs.Compare.{group, bank_of}
use Rattle.tables.specs.Tables.{pair_at}
use Rattle.extents.specs.Extents.{SmallAddress}
use Rattle.grouping.specs.Links.{Linked, Passing}
use Rattle.reach.specs.Counting.{path_count}
use Rattle.sorting.specs.declared.Row.{Row}
use Rattle.sorting.specs.Rows.{row_width, rows_from}
use Rattle.normalisation.specs.Merging.{by_displacement, of_displacement, sorted_by_displacement}
use Rattle.entering.specs.Entering.{Covered}
use Rattle.forward.specs.Forward.{planned_of}
use Rattle.references.specs.References.{records_at}
use Rattle.arrivals.specs.declared.ListRows.{ListRows}
use Rattle.arrivals.specs.State.{free_row}
use Rattle.arrivals.specs.Sweep.{HasSome, Swept}

-- ---- rows raised

-- the row of the record with its leaf bits so much higher
abbrev pub raised_row : ℤ → Row → Row
raised_row at r = by_displacement (raised_by at (of_displacement r))

-- rows n to m of a state, whose displacements less `at` are numbers of 64 bits
pub record Raisable (at : ℤ) (s : List ℤ) (n m : ℕ) : Type 0 where
  pub order : n ≤ m
  pub within : row_width * m ≤ length s
  pub fits : (r : Row) → r ∈ rows_from s n m → Subtractable r.first at

-- ---- the rows of banks

-- the bank with this leaf, which begins at this leaf bit of the group
abbrev pub bank_with : ℕ → ℤ → Bank
bank_with leaf at = record { leaf = pos leaf; at = at }

-- the banks of the group of a row of leaf pairs
abbrev pub banks_at : List ℤ → ℕ → List Bank
banks_at pairs row = map bank_of (group (pair_rows pairs) (pair_at pairs row))

-- a state swept from a root by walks of this kind, with the rows of some banks from the free row up to row n: their records have exactly what is reached in the
-- group of these banks, none is empty, and they are no more than paths lead to the banks together
pub record Gathering (kind : WalkKind) (ns es : List ℤ) (plan : List ℕ) (root : ℕ) (banks : List Bank) (s : List ℤ) (n : ℕ) : Type 0 where
  pub state : Swept kind ns es plan root s
  pub leaves : (b : Bank) → b ∈ banks → Leaf (graph_of ns es) b.leaf
  pub behind : free_row s ≤ n
  pub within : row_width * n ≤ length s
  pub exact : (x y : ℤ) → HasSome (records_at s (free_row s) (n - free_row s)) x y ↔ GroupReached kind (graph_of ns es) (pos root) banks x y
  pub full : (q : Record) → q ∈ records_at s (free_row s) (n - free_row s) → q.first ≤ℤ q.last
  pub few : n ≤ free_row s + group_paths (graph_of ns es) (pos root) banks

-- what the list of a group is made from: the rows of its banks, and room to sort them
pub record Joinable (s : List ℤ) (n : ℕ) (spare : List ℤ) : Type 0 where
  pub nodes : List ℤ
  pub edges : List ℤ
  pub plan : List ℕ
  pub kind : WalkKind
  pub root : ℕ
  pub banks : List Bank
  pub gathering : Gathering kind nodes edges plan root banks s n
  pub spare_room : row_width * (n - free_row s) ≤ length spare

-- ---- lists

-- a list stands in a state, as rows by displacement, sorted. From its first row on the state is free to be worked in
pub record ListAnswered (kind : WalkKind) (ns es : List ℤ) (plan : List ℕ) (root : ℕ) (l : List Record) (new : List ℤ) (r : ListRows) : Type 0 where
  pub free : (s : List ℤ) → length s ≡ length new → take (row_width * r.row) s ≡ take (row_width * r.row) new → Swept kind ns es plan root s
  pub within : row_width * (r.row + r.count) ≤ length new
  pub count : r.count ≡ length l
  pub rows : records_at new r.row r.count ≡ sorted_by_displacement l

-- the list of the root and a group, for walks of this kind
abbrev pub GroupAnswered : WalkKind → List ℤ → List ℤ → List ℕ → ℕ → List Bank → List ℤ → ListRows → Type 0
GroupAnswered kind ns es plan root banks = ListAnswered kind ns es plan root (group_list kind (graph_of ns es) (pos root) banks)

-- the bitmapping list of the root and a leaf, for walks of this kind
abbrev pub Answered : WalkKind → List ℤ → List ℤ → List ℕ → ℕ → ℕ → List ℤ → ListRows → Type 0
Answered kind ns es plan root leaf = ListAnswered kind ns es plan root (list_of kind (graph_of ns es) (pos root) (pos leaf))

-- what the list of a leaf starts from: a state swept from a root, a leaf all of whose entering edges the plan has, at most 1,024 paths to it, and room
pub record Askable (ns es : List ℤ) (plan : List ℕ) (leaf : ℕ) (s spare : List ℤ) : Type 0 where
  pub kind : WalkKind
  pub root : ℕ
  pub state : Swept kind ns es plan root s
  pub block : Leaf (graph_of ns es) (pos leaf)
  pub covered : Covered es (planned_of es plan) (pos leaf)
  pub few : path_count (graph_of ns es) (pos root) (pos leaf) ≤ max_paths
  pub spare_room : row_width * max_paths ≤ length spare

-- the implementation leaf of a pair row can be listed as a bank: all its entering edges are in the plan, and it begins at a small bit
pub record BankListable (ns es : List ℤ) (plan : List ℕ) (p : Pair) : Type 0 where
  pub block : Leaf (graph_of ns es) p.impl
  pub covered : Covered es (planned_of es plan) p.impl
  pub small : SmallAddress p.at

-- what the list of a group starts from: a state swept from a root, leaf pairs whose groups are linked, the lowest row of a group, at most 1,024 paths to its banks
-- together, and room
pub record GroupAskable (ns es : List ℤ) (plan : List ℕ) (pairs : List ℤ) (links : List ℕ) (lowest : ℕ) (s spare : List ℤ) : Type 0 where
  pub kind : WalkKind
  pub root : ℕ
  pub state : Swept kind ns es plan root s
  pub linked : Linked pairs links
  pub rows : length pairs ≤ pair_width * max_pairs
  pub start : Passing pairs (pair_at pairs lowest) [] lowest
  pub there : lowest < length pairs / pair_width
  pub listable : (p : Pair) → p ∈ pair_rows pairs → BankListable ns es plan p
  pub few : group_paths (graph_of ns es) (pos root) (banks_at pairs lowest) ≤ max_paths
  pub spare_room : row_width * max_paths ≤ length spare
