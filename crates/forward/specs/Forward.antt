-- The edges that lead to a paired leaf, from the roots down, and for each node the edges that enter it. Assumes nothing.
use Rattle.std.specs.Prelude.{◌≡◌, List, [], ◌∷◌, map, ℕ, suc, ◌+◌, ◌≤◌, ◌<◌, ℤ, pos, length, get_or, take}
use Rattle.lists.specs.Lists.{◌∈◌, Distinct}
use Rattle.model.specs.Limits.{max_nodes, max_edges}
use Rattle.model.specs.Rows.{Edge, node_rows, edge_rows, pair_rows}
use Rattle.model.specs.Graph.{Graph, graph_of, NodeRow}
use Rattle.model.specs.Paths.{Way}
use Rattle.model.specs.Taken.{TakenTables}
use Rattle.depth.specs.Order.{edge_order}
use Rattle.tables.specs.Tables.{edge_at}
use Rattle.reach.specs.Links.{first_row}
use Rattle.entering.specs.Entering.{enters}
use Rattle.pairing.specs.Pairs.{node_columns, node_in}

-- ---- edges in forward order

-- v leads to one of the leaves
abbrev pub Leads : Graph → List ℤ → ℤ → Type 0
Leads g ls v = (l : ℤ) × (l ∈ ls) × ((p : List Edge) × Way g v p l)

-- said of an order of edges, with those that stand before it: before each edge stand all edges of the graph that enter the node it leaves
abbrev pub Forward : List Edge → List Edge → List Edge → Type 0
Forward graph before [] = Unit {0}
Forward graph before (e ∷ order) = ((f : Edge) → f ∈ graph → f.to ≡ e.from → f ∈ before) × Forward graph (e ∷ before) order

-- ---- the plan of a graph, in one slice of numbers

-- where its parts begin: in front the edge rows in forward order; then for each node the first edge row that enters it; then for each edge row the next
-- that enters the same node; last how many rows stand in front
abbrev pub head_at : ℕ
head_at = max_edges

abbrev pub next_at : ℕ
next_at = max_edges + max_nodes

abbrev pub count_at : ℕ
count_at = max_edges + max_nodes + max_edges

abbrev pub plan_room : ℕ
plan_room = max_edges + max_nodes + max_edges + 1

-- how many edges a plan has in front
abbrev pub planned_count : List ℕ → ℕ
planned_count plan = get_or plan count_at 0

-- these edges, in their order
abbrev pub planned_of : List ℤ → List ℕ → List Edge
planned_of es plan = map (edge_at es) (take (planned_count plan) plan)

-- the plan of the graph of two tables: edges in forward order, each once, with every edge that enters the same node as one of them; and for every
-- node the edges that enter it, linked in the order of their rows, with the number of edges where there is none further
pub record Planned (ns es : List ℤ) (plan : List ℕ) : Type 0 where
  pub room : length plan ≡ plan_room
  pub few : planned_count plan ≤ max_edges
  pub there : (i : ℕ) → i < planned_count plan → get_or plan i 0 < length (edge_rows es)
  pub inside : (e : Edge) → e ∈ planned_of es plan → e ∈ edge_rows es
  pub forward : Forward (edge_rows es) [] (planned_of es plan)
  pub distinct : Distinct (planned_of es plan)
  pub whole : (e f : Edge) → e ∈ planned_of es plan → f ∈ edge_rows es → f.to ≡ e.to → f ∈ planned_of es plan
  pub heads : (v : ℕ) → v < length (node_rows ns) → get_or plan (head_at + v) 0 ≡ first_row (enters (pos v)) 0 (edge_rows es)
  pub nexts : (e : ℕ) → e < length (edge_rows es) → get_or plan (next_at + e) 0 ≡ first_row (enters (edge_at es e).to) (suc e) (edge_rows es)

-- its edges are exactly those that enter a node which leads to one of the leaves
pub record LeadingTo (ns es : List ℤ) (ls : List ℤ) (plan : List ℕ) : Type 0 where
  pub leads : (e : Edge) → e ∈ planned_of es plan → Leads (graph_of ns es) ls e.to
  pub all : (e : Edge) → e ∈ edge_rows es → Leads (graph_of ns es) ls e.to → e ∈ planned_of es plan

-- ---- making it

-- the nodes in a column of a pair table
abbrev pub nodes_in : ℕ → List ℤ → List ℤ
nodes_in column pairs = map (node_in column) (pair_rows pairs)

-- what a plan starts from: tables whose graph is taken, their edge rows in backward order in front of `order`, nodes of the graph in a column of the pairs,
-- and room
pub record Plannable (ns es : List ℤ) (order : List ℕ) (pairs : List ℤ) (column : ℕ) (plan : List ℕ) : Type 0 where
  pub tables : TakenTables ns es
  pub backward : take (length (edge_rows es)) order ≡ map (λ e. e.row) (edge_order (edge_rows es))
  pub in_pair : column < node_columns
  pub rows : (l : ℤ) → l ∈ nodes_in column pairs → NodeRow (graph_of ns es) l
  pub room : length plan ≡ plan_room
