-- What a graph and a pair row that meet no condition for a refusal have, and what it is that all nodes of a graph are open to both kinds of walk: the contracts of what runs after a check ask for it.
-- Assumes nothing.
use Rattle.std.specs.Prelude.{◌≡◌, ◌≢◌, List, ℕ, ◌*◌, ◌%◌, ◌≤◌, ℤ, pos, ◌≤ℤ◌, length}
use Rattle.lists.specs.Lists.{◌∈◌, Distinct}
use Rattle.model.specs.Limits.{node_width, edge_width, max_nodes, max_edges}
use Rattle.model.specs.Rows.{Edge, Pair}
use Rattle.model.specs.Graph.{Graph, graph_of, NodeRow, node, block, read_write}
use Rattle.model.specs.Paths.{Cycle, LongChain}
use Rattle.model.specs.Refusals.{BadNode, LowOffset, HighOffset, PairedBefore}

-- no cycle, no chain of more than 64 edges, every node row good, every edge row good, and no edge from a block
pub record Taken (g : Graph) : Type 0 where
  pub acyclic : Cycle g → ⊥
  pub short : LongChain g → ⊥
  pub good : (v : ℤ) → NodeRow g v → BadNode (node g v) → ⊥
  pub ends : (e : Edge) → e ∈ g.edges → NodeRow g e.from × NodeRow g e.to
  pub offsets : (e : Edge) → e ∈ g.edges → (LowOffset g e → ⊥) × (HighOffset g e → ⊥)
  pub from_no_block : (e : Edge) → e ∈ g.edges → (node g e.from).kind ≢ block
  pub distinct : Distinct g.edges

-- every node may be read and written: no walk of either kind ends at an access
abbrev pub AllOpen : Graph → Type 0
AllOpen g = (v : ℤ) → (node g v).access ≡ read_write

-- whole rows, and no more of them than the limit
pub record GoodShape (width most : ℕ) (xs : List ℤ) : Type 0 where
  pub whole : length xs % width ≡ 0
  pub few : length xs ≤ width * most

-- a pair row that meets no condition: its nodes are as wanted, `at` is in 0 .. most, and no earlier row stands in the relation Same to it
pub record PairTaken (Spec Impl : ℤ → Type 0) (most : ℤ) (Same : Pair → Pair → Type 0) (rows : List Pair) (p : Pair) : Type 0 where
  pub nodes : Spec p.spec × Impl p.impl
  pub range : (pos 0 ≤ℤ p.at) × (p.at ≤ℤ most)
  pub once : PairedBefore Same rows p → ⊥

-- a node table and an edge table whose graph is taken
pub record TakenTables (ns es : List ℤ) : Type 0 where
  pub graph : Taken (graph_of ns es)
  pub nodes : GoodShape node_width max_nodes ns
  pub edges : GoodShape edge_width max_edges es
