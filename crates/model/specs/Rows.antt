-- Tables of signed numbers, and their rows in table order. Assumes nothing.
-- A row has its place in the table, counted from 0: two rows are told apart though their numbers are the same (parallel edges).
use Rattle.std.specs.Prelude.{List, [], ◌∷◌, ℕ, suc, ℤ}

-- a node row: base and range count address units, unit is the bits of one address unit; access says which walks may stand on the node
pub record Node : Type 0 where
  pub row : ℕ
  pub kind : ℤ
  pub base : ℤ
  pub range : ℤ
  pub unit : ℤ
  pub access : ℤ

-- an edge row: two node rows, and an offset in address units of the node `to` (000, equation 2.10)
pub record Edge : Type 0 where
  pub row : ℕ
  pub from : ℤ
  pub to : ℤ
  pub offset : ℤ

-- a row of root pairs or of leaf pairs: a specification node and an implementation node (000, 2.6.4), and in a leaf pair the specification leaf bit where the
-- implementation leaf begins, which is 0 in a root pair (document 02, item 3)
pub record Pair : Type 0 where
  pub row : ℕ
  pub spec : ℤ
  pub impl : ℤ
  pub at : ℤ

-- the node rows, the first of them row i; numbers left over at the end are no row
unfoldable pub nodes_from : ℕ → List ℤ → List Node
nodes_from i [] = []
nodes_from i (k ∷ []) = []
nodes_from i (k ∷ b ∷ []) = []
nodes_from i (k ∷ b ∷ r ∷ []) = []
nodes_from i (k ∷ b ∷ r ∷ u ∷ []) = []
nodes_from i (k ∷ b ∷ r ∷ u ∷ a ∷ rest) = record { row = i; kind = k; base = b; range = r; unit = u; access = a } ∷ nodes_from (suc i) rest

-- the edge rows, the first of them row i
unfoldable pub edges_from : ℕ → List ℤ → List Edge
edges_from i [] = []
edges_from i (f ∷ []) = []
edges_from i (f ∷ t ∷ []) = []
edges_from i (f ∷ t ∷ o ∷ rest) = record { row = i; from = f; to = t; offset = o } ∷ edges_from (suc i) rest

-- the pair rows, the first of them row i
unfoldable pub pairs_from : ℕ → List ℤ → List Pair
pairs_from i [] = []
pairs_from i (s ∷ []) = []
pairs_from i (s ∷ m ∷ []) = []
pairs_from i (s ∷ m ∷ a ∷ rest) = record { row = i; spec = s; impl = m; at = a } ∷ pairs_from (suc i) rest

-- the rows of a whole table
abbrev pub node_rows : List ℤ → List Node
node_rows ns = nodes_from 0 ns

abbrev pub edge_rows : List ℤ → List Edge
edge_rows es = edges_from 0 es

abbrev pub pair_rows : List ℤ → List Pair
pair_rows ps = pairs_from 0 ps
