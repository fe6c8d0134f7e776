-- The conditions for a refusal, each a proposition in the words of documents 01 and 02, and for each call their order. Assumes nothing.
use Rattle.std.specs.Prelude.{◌≡◌, ◌≢◌, ◌⊎◌, ℕ, suc, ◌+◌, ◌*◌, ◌%◌, ◌<◌, ℤ, pos, neg_ℤ, ◌+ℤ◌, ◌<ℤ◌, length}
use mathlib.Core.List.{List, [], ◌∷◌, ◌++◌, flat_map}
use Rattle.lists.specs.Lists.{◌∈◌}
use Rattle.model.specs.Limits.{node_width, edge_width, pair_width, max_nodes, max_edges, max_pairs, max_units, last_at, root_stride}
use Rattle.model.specs.Rows.{Node, Edge, Pair, node_rows, edge_rows}
use Rattle.model.specs.Graph.{Graph, graph_of, NodeRow, node, space, segment, block, read_write, read_only, write_only}
use Rattle.model.specs.Paths.{Root, Leaf, Cycle, LongChain, ManyPaths}
use Rattle.model.specs.Groups.{leaves_of}
use Rattle.model.specs.Compare.{Tables, spec_graph, impl_graph, root_rows, leaf_rows, banks, Visit, all_visits}

-- a refusal: its number, and the table and row that it names
pub record Refusal : Type 0 where
  pub number : ℕ
  pub table : ℕ
  pub row : ℕ

-- a condition: what must hold, and the refusal that is given for it
pub record Condition : Type 1 where
  pub refusal : Refusal
  pub holds : Type 0

-- no condition of the list holds
abbrev pub NoneHolds : List Condition → Type 0
NoneHolds [] = Unit {0}
NoneHolds (c ∷ cs) = (c.holds → ⊥) × NoneHolds cs

-- r is given for the first condition of the list that holds
abbrev pub FirstHolds : Refusal → List Condition → Type 0
FirstHolds r [] = ⊥
FirstHolds r (c ∷ cs) = (c.holds × (r ≡ c.refusal)) ⊎ ((c.holds → ⊥) × FirstHolds r cs)

-- one condition
abbrev pub refuse : ℕ → ℕ → ℕ → Type 0 → List Condition
refuse n t r P = record { refusal = record { number = n; table = t; row = r }; holds = P } ∷ []

infixr 20 ◌next◌
-- first these conditions, then those
abbrev pub ◌next◌ : List Condition → List Condition → List Condition
cs next ds = cs ++ ds

-- ---- 1: length no multiple of the row width, or more rows than the limit

pub data BadShape (width most : ℕ) (xs : List ℤ) : Type 0 where
  broken : length xs % width ≢ 0 → BadShape width most xs
  too_many : width * most < length xs → BadShape width most xs

unfoldable pub shape_conditions : ℕ → ℕ → ℕ → List ℤ → List Condition
shape_conditions t width most xs = refuse 1 t 0 (BadShape width most xs)

-- ---- 2: unknown kind, unit or access; base < 0; range < 1; base + range > 2^48

abbrev pub Kind : ℤ → Type 0
Kind k = (k ≡ space) ⊎ (k ≡ segment) ⊎ (k ≡ block)

abbrev pub AddressUnit : ℤ → Type 0
AddressUnit u = (u ≡ pos 8) ⊎ (u ≡ pos 16) ⊎ (u ≡ pos 32) ⊎ (u ≡ pos 64) ⊎ (u ≡ pos 128)

abbrev pub Access : ℤ → Type 0
Access a = (a ≡ read_write) ⊎ (a ≡ read_only) ⊎ (a ≡ write_only)

-- the node ends too high
abbrev pub HighEnd : Node → Type 0
HighEnd n = pos max_units <ℤ (n.base +ℤ n.range)

pub data BadNode (n : Node) : Type 0 where
  unknown_kind : (Kind n.kind → ⊥) → BadNode n
  unknown_unit : (AddressUnit n.unit → ⊥) → BadNode n
  unknown_access : (Access n.access → ⊥) → BadNode n
  low_base : n.base <ℤ pos 0 → BadNode n
  low_range : n.range <ℤ pos 1 → BadNode n
  high_end : HighEnd n → BadNode n

unfoldable pub node_conditions : ℕ → Node → List Condition
node_conditions t n = refuse 2 t n.row (BadNode n)

-- ---- 3: an end is no node row, or offset outside −2^48 .. 2^48; 4: from is a block

-- the edge's offset is too low
abbrev pub LowOffset : Graph → Edge → Type 0
LowOffset g e = e.offset <ℤ neg_ℤ (pos max_units)

-- the edge's offset is too high
abbrev pub HighOffset : Graph → Edge → Type 0
HighOffset g e = pos max_units <ℤ e.offset

pub data BadEdge (g : Graph) (e : Edge) : Type 0 where
  no_from : (NodeRow g e.from → ⊥) → BadEdge g e
  no_to : (NodeRow g e.to → ⊥) → BadEdge g e
  low_offset : LowOffset g e → BadEdge g e
  high_offset : HighOffset g e → BadEdge g e

unfoldable pub edge_conditions : ℕ → Graph → Edge → List Condition
edge_conditions t g e = refuse 3 t e.row (BadEdge g e) next refuse 4 t e.row ((node g e.from).kind ≡ block)

-- ---- one graph: node shape, edge shape, node rows, edge rows (3 before 4), 5 a cycle, 6 some chain of more than 64 edges.
-- Its node table is t and its edge table t + 1

-- the conditions on the shape and the rows of the two tables of a graph: refusals 1 to 4
unfoldable pub row_conditions : ℕ → List ℤ → List ℤ → List Condition
row_conditions t ns es =
    shape_conditions t node_width max_nodes ns
    next shape_conditions (suc t) edge_width max_edges es
    next flat_map (node_conditions t) (node_rows ns)
    next flat_map (edge_conditions (suc t) (graph_of ns es)) (edge_rows es)

-- the conditions on a graph: those on its shape and rows, then a cycle, then a long chain
unfoldable pub graph_conditions : ℕ → List ℤ → List ℤ → List Condition
graph_conditions t ns es =
    row_conditions t ns es
    next refuse 5 t 0 (Cycle (graph_of ns es))
    next refuse 6 t 0 (LongChain (graph_of ns es))

-- ---- a root and a leaf of a single graph: 7 the named node is no root, or no leaf; 10 more than 1,024 paths

unfoldable pub named_conditions : Graph → ℤ → ℤ → List Condition
named_conditions g r l = refuse 7 4 0 (Root g r → ⊥) next refuse 7 5 0 (Leaf g l → ⊥) next refuse 10 1 0 (ManyPaths g r (l ∷ []))

-- ---- 11: the output is longer than its buffer

unfoldable pub output_conditions : ℕ → ℕ → List Condition
output_conditions output room = refuse 11 7 0 (room < output)

-- ---- a pairing: 7 a paired node is no root, or no leaf, of its graph; 16 `at` is outside 0 .. last_at, or not 0 in a root row; 8 a root stands in an earlier row
-- of that table on the same side, or an implementation leaf in an earlier row

pub data NotPaired (Spec Impl : ℤ → Type 0) (p : Pair) : Type 0 where
  no_spec : (Spec p.spec → ⊥) → NotPaired Spec Impl p
  no_impl : (Impl p.impl → ⊥) → NotPaired Spec Impl p

-- `at` is outside 0 .. most
pub data BadAt (most : ℤ) (p : Pair) : Type 0 where
  low_at : p.at <ℤ pos 0 → BadAt most p
  high_at : most <ℤ p.at → BadAt most p

-- two root rows have a node in common on the same side
abbrev pub SameRoot : Pair → Pair → Type 0
SameRoot q p = (q.spec ≡ p.spec) ⊎ (q.impl ≡ p.impl)

-- two leaf rows have the same implementation leaf
abbrev pub SameImpl : Pair → Pair → Type 0
SameImpl q p = q.impl ≡ p.impl

-- an earlier row of the table stands in this relation to the row
pub record PairedBefore (Same : Pair → Pair → Type 0) (rows : List Pair) (p : Pair) : Type 0 where
  pub earlier : Pair
  pub row : earlier ∈ rows
  pub before : earlier.row < p.row
  pub same : Same earlier p

-- 7, 16 and 8 of a row
unfoldable pub pair_conditions : ℕ → (ℤ → Type 0) → (ℤ → Type 0) → ℤ → (Pair → Pair → Type 0) → List Pair → Pair → List Condition
pair_conditions t Spec Impl most Same rows p =
    refuse 7 t p.row (NotPaired Spec Impl p) next refuse 16 t p.row (BadAt most p) next refuse 8 t p.row (PairedBefore Same rows p)

-- root rows: `at` is 0, no root stands twice on a side
unfoldable pub root_conditions : Tables → List Condition
root_conditions t = flat_map (pair_conditions 4 (Root (spec_graph t)) (Root (impl_graph t)) (pos 0) SameRoot (root_rows t)) (root_rows t)

-- leaf rows: `at` is in 0 .. last_at, no implementation leaf stands twice
unfoldable pub leaf_conditions : Tables → List Condition
leaf_conditions t = flat_map (pair_conditions 5 (Leaf (spec_graph t)) (Leaf (impl_graph t)) last_at SameImpl (leaf_rows t)) (leaf_rows t)

-- 10 for a root row and a group, at the group's lowest row: more than 1,024 paths to the specification leaf, or to all banks of the group together
unfoldable pub visit_conditions : Tables → Visit → List Condition
visit_conditions t v =
    refuse 10 1 (v.root.row * root_stride + v.leaf.row) (ManyPaths (spec_graph t) v.root.spec (v.leaf.spec ∷ []))
    next refuse 10 3 (v.root.row * root_stride + v.leaf.row) (ManyPaths (impl_graph t) v.root.impl (leaves_of (banks t v.leaf)))

-- shape of 4, of 5, 9 for 4, 9 for 5 (no root pair, no leaf pair), rows of 4, rows of 5 (7 before 16 before 8), then 10 in visiting order, specification first
unfoldable pub pairing_conditions : Tables → List Condition
pairing_conditions t =
    shape_conditions 4 pair_width max_pairs t.root_pairs
    next shape_conditions 5 pair_width max_pairs t.leaf_pairs
    next refuse 9 4 0 (root_rows t ≡ [])
    next refuse 9 5 0 (leaf_rows t ≡ [])
    next root_conditions t
    next leaf_conditions t
    next flat_map (visit_conditions t) (all_visits t)

-- ---- the calls

-- check one graph
unfoldable pub check_conditions : List ℤ → List ℤ → List Condition
check_conditions ns es = graph_conditions 0 ns es

-- walk and list, whose output has the given length
unfoldable pub single_conditions : List ℤ → List ℤ → ℤ → ℤ → ℕ → ℕ → List Condition
single_conditions ns es r l output room =
    graph_conditions 0 ns es next named_conditions (graph_of ns es) r l next output_conditions output room

-- compare two graphs
unfoldable pub compare_conditions : Tables → List Condition
compare_conditions t =
    graph_conditions 0 t.spec_nodes t.spec_edges next graph_conditions 2 t.impl_nodes t.impl_edges next pairing_conditions t
