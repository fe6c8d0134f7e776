-- What each pass that makes a part of a plan asks and leaves. Assumes nothing.
use Rattle.std.specs.Prelude.{◌≡◌, Bool, true, false, ◌⊎◌, ◌↔◌, List, map, reverse, ℕ, suc, ◌+◌, ◌≤◌, ◌<◌, ℤ, pos, nat_abs, length, get_or, set, take}
use Rattle.std.proofs.lemmas.List.Edits.{sets}
use Rattle.lists.specs.Lists.{◌∈◌, keep}
use Rattle.model.specs.Rows.{Edge, node_rows, edge_rows}
use Rattle.model.specs.Graph.{Graph, graph_of}
use Rattle.model.specs.Paths.{Way}
use Rattle.model.specs.Taken.{TakenTables}
use Rattle.tables.specs.Tables.{edge_at}
use Rattle.depth.specs.Order.{edge_order}
use Rattle.depth.specs.Passes.{Within}
use Rattle.reach.specs.Links.{first_row}
use Rattle.entering.specs.Entering.{enters}
use Rattle.pairing.specs.Pairs.{node_columns}
use Rattle.forward.specs.Forward.{head_at, next_at, count_at, plan_room, nodes_in}

-- ---- marks: one for each node

-- exactly the nodes of which P is said are marked
pub record Marking (marks : List Bool) (P : ℤ → Type 0) : Type 0 where
  pub each : (v : ℕ) → (get_or marks v false ≡ true) ↔ P (pos v)

-- node v is marked
abbrev pub Marked : List Bool → ℤ → Type 0
Marked marks v = (i : ℕ) × (pos i ≡ v) × (get_or marks i false ≡ true)

-- v leads to a node of which P is said
abbrev pub LeadsTo : Graph → (ℤ → Type 0) → ℤ → Type 0
LeadsTo g P v = (l : ℤ) × P l × ((p : List Edge) × Way g v p l)

-- what marking the nodes in a column of a pair table starts from: a mark for each of them, and none that is set
pub record Markable (pairs : List ℤ) (column : ℕ) (marks : List Bool) : Type 0 where
  pub in_pair : column < node_columns
  pub within : (l : ℤ) → l ∈ nodes_in column pairs → Within (length marks) l
  pub blank : (v : ℕ) → get_or marks v false ≡ false

-- ---- a pass over the edges in backward order

-- edges of a taken graph of at most so many nodes, and their rows in backward order in front of `order`
pub record BackwardRows (es : List ℤ) (order : List ℕ) (count : ℕ) : Type 0 where
  pub nodes : List ℤ
  pub tables : TakenTables nodes es
  pub backward : take (length (edge_rows es)) order ≡ map (λ e. e.row) (edge_order (edge_rows es))
  pub room : length (node_rows nodes) ≤ count

-- the marks behind the pass: of the nodes that lead to a marked one. Ways go by edges, so the node table does not matter
abbrev pub Spread : List ℤ → List Bool → List Bool → Type 0
Spread es marks marks' = (ns : List ℤ) → Marking marks' (LeadsTo (graph_of ns es) (Marked marks))

-- ---- the edges that lead on, from the roots down

-- the edge row enters a marked node
unfoldable pub enters_marked : List ℤ → List Bool → ℕ → Bool
enters_marked es marks e = get_or marks (nat_abs (edge_at es e).to) false

-- the edge rows in front of `order` that enter a marked node, the last of them first
unfoldable pub leading_rows : List ℤ → List ℕ → List Bool → List ℕ
leading_rows es order marks = reverse (keep (enters_marked es marks) (take (length (edge_rows es)) order))

-- a plan that held `plan`, with these rows in front, and their number
unfoldable pub plan_with : List ℕ → List ℕ → List ℕ
plan_with rows plan = set (sets plan 0 rows) count_at (length rows)

-- ---- the edges that enter a node, linked

-- l and m are as long, and have the same numbers but at places a .. b − 1
pub record SameBut (a b : ℕ) (l m : List ℕ) : Type 0 where
  pub size : length m ≡ length l
  pub others : (i : ℕ) → (i < a) ⊎ (b ≤ i) → get_or m i 0 ≡ get_or l i 0

-- a plan in which the heads of the first `count` nodes are all set to a value
pub record HeadsSet (count value : ℕ) (plan plan' : List ℕ) : Type 0 where
  pub each : (v : ℕ) → v < count → get_or plan' (head_at + v) 0 ≡ value
  pub same : SameBut head_at (head_at + count) plan plan'

-- what linking starts from: tables whose graph is taken, and room
pub record Linkable (ns es : List ℤ) (plan : List ℕ) : Type 0 where
  pub tables : TakenTables ns es
  pub room : length plan ≡ plan_room

-- a plan in which the edges that enter each node are linked
pub record EnteringLinked (ns es : List ℤ) (plan plan' : List ℕ) : Type 0 where
  pub heads : (v : ℕ) → v < length (node_rows ns) → get_or plan' (head_at + v) 0 ≡ first_row (enters (pos v)) 0 (edge_rows es)
  pub nexts : (e : ℕ) → e < length (edge_rows es) → get_or plan' (next_at + e) 0 ≡ first_row (enters (edge_at es e).to) (suc e) (edge_rows es)
  pub same : SameBut head_at count_at plan plan'
