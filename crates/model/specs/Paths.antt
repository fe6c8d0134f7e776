-- Roots, leaves, paths, chains and cycles. Assumes nothing.
use Rattle.std.specs.Prelude.{◌≡◌, ◌≢◌, ◌⊎◌, List, [], ◌∷◌, ◌<◌, ℤ, length}
use Rattle.lists.specs.Lists.{◌∈◌, Distinct}
use Rattle.model.specs.Limits.{max_chain, max_paths}
use Rattle.model.specs.Rows.{Edge}
use Rattle.model.specs.Graph.{Graph, NodeRow, node, space, segment, block}

-- a root is a space or segment that no edge enters (000, 2.11)
pub record Root (g : Graph) (v : ℤ) : Type 0 where
  pub row : NodeRow g v
  pub kind : ((node g v).kind ≡ space) ⊎ ((node g v).kind ≡ segment)
  pub unentered : (e : Edge) → e ∈ g.edges → e.to ≢ v

-- a leaf is a block (000, 2.12)
pub record Leaf (g : Graph) (v : ℤ) : Type 0 where
  pub row : NodeRow g v
  pub kind : (node g v).kind ≡ block

-- Way g v p w: the edge rows p lead from v to w, each starting where the one before ends
pub data Way (g : Graph) : ℤ → List Edge → ℤ → Type 0 where
  stay : {v : ℤ} → Way g v [] v
  over : {v w : ℤ} {p : List Edge} (e : Edge) → e ∈ g.edges → e.from ≡ v → Way g e.to p w → Way g v (e ∷ p) w

-- a path is a way from a root to a leaf (000, 2.14). An edge row has its place in the table, so parallel edges make distinct paths.
-- There are more than 1,024 paths from r to these leaves: more than 1,024 distinct lists of edge rows, each of them a path to one of the leaves. Clipped
-- paths count
pub record ManyPaths (g : Graph) (r : ℤ) (ls : List ℤ) : Type 0 where
  pub paths : List (List Edge)
  pub many : max_paths < length paths
  pub distinct : Distinct paths
  pub each : (p : List Edge) → p ∈ paths → (l : ℤ) × (l ∈ ls) × Way g r p l

-- a cycle: a way of at least one edge that ends where it starts (000, 2.4.4)
pub record Cycle (g : Graph) : Type 0 where
  pub at : ℤ
  pub edges : List Edge
  pub some : edges ≢ []
  pub closed : Way g at edges at

-- some chain of more than 64 edges: a way anywhere in the graph
pub record LongChain (g : Graph) : Type 0 where
  pub from : ℤ
  pub to : ℤ
  pub edges : List Edge
  pub long : max_chain < length edges
  pub chain : Way g from edges to
