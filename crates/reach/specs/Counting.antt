-- How many paths lead to a leaf, counted up to one past the limit. Assumes nothing.
use Rattle.std.specs.Prelude.{◌≡◌, List, [], ◌∷◌, ◌++◌, map, ℕ, zero, suc, ◌+◌, ◌≤◌, min, ℤ, pos, length, take, drop}
use Rattle.model.specs.Limits.{max_paths}
use Rattle.model.specs.Rows.{node_rows, edge_rows}
use Rattle.model.specs.Graph.{Graph, graph_of}
use Rattle.model.specs.Paths.{Leaf}
use Rattle.model.specs.Runs.{paths}
use Rattle.model.specs.Taken.{TakenTables}
use Rattle.depth.specs.Order.{edge_order}

-- how many paths lead from v to l
unfoldable pub path_count : Graph → ℤ → ℤ → ℕ
path_count g v l = length (paths g v l)

-- a count, which stops one past the limit on paths
abbrev pub stopped : ℕ → ℕ
stopped n = min n (max_paths + 1)

-- f 0, f 1 and so on: the first n values
unfoldable pub values_of : {A : Type 0} → (ℕ → A) → ℕ → List A
values_of f zero = []
values_of f (suc n) = values_of f n ++ (f n ∷ [])

-- the stopped counts of the paths to l, of nodes 0 .. n − 1
unfoldable pub counts_of : Graph → ℤ → ℕ → List ℕ
counts_of g l n = values_of (λ v. stopped (path_count g (pos v) l)) n

-- a buffer that held `old`, with the counts of all nodes in front
unfoldable pub counts_over : Graph → ℤ → List ℕ → List ℕ
counts_over g l old = counts_of g l (length g.nodes) ++ drop (length g.nodes) old

-- what a pass over the edges starts from: tables whose graph is taken, their edge rows in backward order in front of `order`, a leaf, and room
pub record Countable (ns es : List ℤ) (order : List ℕ) (leaf : ℕ) (counts : List ℕ) : Type 0 where
  pub tables : TakenTables ns es
  pub block : Leaf (graph_of ns es) (pos leaf)
  pub backward : take (length (edge_rows es)) order ≡ map (λ e. e.row) (edge_order (edge_rows es))
  pub room : length (node_rows ns) ≤ length counts
