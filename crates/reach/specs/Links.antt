-- The edges that can still reach the leaf, linked by the node that they leave. Assumes nothing.
use Rattle.std.specs.Prelude.{◌≡◌, Bool, cond, ◌&&◌, List, [], ◌∷◌, ◌++◌, map, ℕ, zero, suc, ◌≤◌, ltb, ℤ, pos, negsuc, length, get_or, drop}
use Rattle.integers.specs.Integers.{eq_z}
use Rattle.model.specs.Rows.{Edge, node_rows, edge_rows}
use Rattle.model.specs.Graph.{Graph}
use Rattle.model.specs.Taken.{TakenTables}
use Rattle.reach.specs.Counting.{values_of}

-- the lowest place from i on whose element passes the test, else the length of the list
unfoldable pub first_row : {A : Type 0} → (A → Bool) → ℕ → List A → ℕ
first_row ok i [] = 0
first_row ok zero (x ∷ l) = let r = first_row ok zero l in cond (ok x) 0 (suc r)
first_row ok (suc i) (x ∷ l) = suc (first_row ok i l)

-- the count of node v, where counts has one
unfoldable pub count_at : List ℕ → ℤ → ℕ
count_at counts (pos v) = get_or counts v 0
count_at counts (negsuc v) = 0

-- the edge leaves v, and the count of the node that it enters is not 0
unfoldable pub matters : List ℕ → ℤ → Edge → Bool
matters counts v e = eq_z e.from v && ltb 0 (count_at counts e.to)

-- of nodes 0 .. n − 1, the first edge that matters
unfoldable pub heads_of : List ℕ → List Edge → ℕ → List ℕ
heads_of counts es n = values_of (λ v. first_row (matters counts (pos v)) 0 es) n

-- of each edge, the first edge behind it that leaves the same node and matters
unfoldable pub nexts_of : List ℕ → List Edge → List ℕ
nexts_of counts es = map (λ e. first_row (matters counts e.from) (suc e.row) es) es

-- buffers that held `head` and `next`, with the links of all nodes and of all edges in front
pub record Linked (counts : List ℕ) (g : Graph) (head next head' next' : List ℕ) : Type 0 where
  pub heads : head' ≡ heads_of counts g.edges (length g.nodes) ++ drop (length g.nodes) head
  pub nexts : next' ≡ nexts_of counts g.edges ++ drop (length g.edges) next

-- what linking starts from: tables whose graph is taken, and room for a number for each node and each edge
pub record Linkable (ns es : List ℤ) (counts head next : List ℕ) : Type 0 where
  pub tables : TakenTables ns es
  pub counted : length (node_rows ns) ≤ length counts
  pub node_room : length (node_rows ns) ≤ length head
  pub edge_room : length (edge_rows es) ≤ length next
