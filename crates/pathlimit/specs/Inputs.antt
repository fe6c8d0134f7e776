-- What a comparison of checked tables starts from: two taken graphs with a pairing of their roots and leaves, each planned for its paired leaves, the groups of
-- leaf pairs linked, and few paths between paired nodes. Assumes nothing.
use Rattle.std.specs.Prelude.{List, ℕ, ◌≤◌, pos, ◌≤ℤ◌, length}
use Rattle.lists.specs.Lists.{◌∈◌}
use Rattle.model.specs.Limits.{pair_width, max_pairs, last_at, max_paths}
use Rattle.model.specs.Rows.{Pair}
use Rattle.model.specs.Paths.{Root, Leaf}
use Rattle.model.specs.Runs.{paths}
use Rattle.model.specs.Groups.{group_paths}
use Rattle.model.specs.Taken.{GoodShape, TakenTables}
use Rattle.model.specs.Compare.{Tables, spec_graph, impl_graph, root_rows, leaf_rows, banks, Visit, all_visits}
use Rattle.forward.specs.Forward.{Planned, LeadingTo, nodes_in}
use Rattle.grouping.specs.Links.{Linked}

-- tables that the checks of the inputs take: two taken graphs, and pairs of their roots and of their leaves, each leaf row with `at` in its range
pub record Inputs (t : Tables) : Type 0 where
  pub spec : TakenTables t.spec_nodes t.spec_edges
  pub impl : TakenTables t.impl_nodes t.impl_edges
  pub root_shape : GoodShape pair_width max_pairs t.root_pairs
  pub leaf_shape : GoodShape pair_width max_pairs t.leaf_pairs
  pub roots : (p : Pair) → p ∈ root_rows t → Root (spec_graph t) p.spec × Root (impl_graph t) p.impl
  pub leaves : (p : Pair) → p ∈ leaf_rows t → Leaf (spec_graph t) p.spec × Leaf (impl_graph t) p.impl
  pub starts : (p : Pair) → p ∈ leaf_rows t → (pos 0 ≤ℤ p.at) × (p.at ≤ℤ last_at)

-- such tables, for each graph the plan of the edges that lead to its paired leaves, and the links of groups
pub record Plans (t : Tables) (specPlan implPlan links : List ℕ) : Type 0 where
  pub inputs : Inputs t
  pub spec_planned : Planned t.spec_nodes t.spec_edges specPlan
  pub impl_planned : Planned t.impl_nodes t.impl_edges implPlan
  pub spec_leading : LeadingTo t.spec_nodes t.spec_edges (nodes_in 0 t.leaf_pairs) specPlan
  pub impl_leading : LeadingTo t.impl_nodes t.impl_edges (nodes_in 1 t.leaf_pairs) implPlan
  pub linked : Linked t.leaf_pairs links

-- no pair has more than 1,024 paths: to its specification leaf, or to the banks of its group together
abbrev pub AllFew : Tables → Type 0
AllFew t = (v : Visit) → v ∈ all_visits t
    → (length (paths (spec_graph t) v.root.spec v.leaf.spec) ≤ max_paths) × (group_paths (impl_graph t) v.root.impl (banks t v.leaf) ≤ max_paths)

-- planned tables whose pairs have few paths: ready to be compared
pub record Ready (t : Tables) (specPlan implPlan links : List ℕ) : Type 0 where
  pub plans : Plans t specPlan implPlan links
  pub few : AllFew t
