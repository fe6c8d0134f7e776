-- The checks, computed: for each call the first refusal in the order of its conditions, or none. Assumes nothing.
-- Each check stands beside a list of conditions of the module Refusals and follows its shape.
use Rattle.std.specs.Prelude.{Bool, true, false, not, cond, ◌&&◌, ◌||◌, ℕ, zero, suc, ◌+◌, ◌*◌, ◌%◌, eqb, ltb, ℤ, pos, neg_ℤ, ◌+ℤ◌, length}
use mathlib.Core.List.{List, [], ◌∷◌, map, flat_map}
use Rattle.std.proofs.Math.Option.{Option, none, some}
use Rattle.std.specs.Int.Signed.{le_z, lt_z}
use Rattle.integers.specs.Integers.{eq_z}
use Rattle.lists.specs.Lists.{keep, any, is_nil}
use Rattle.model.specs.Limits.{node_width, edge_width, pair_width, max_nodes, max_edges, max_pairs, max_units, last_at, max_chain, max_paths, root_stride}
use Rattle.model.specs.Rows.{Node, Edge, Pair, node_rows, edge_rows}
use Rattle.model.specs.Graph.{Graph, graph_of, node, space, segment, block, read_write, read_only, write_only}
use Rattle.model.specs.Runs.{paths}
use Rattle.model.specs.Groups.{leaves_of}
use Rattle.model.specs.Compare.{Tables, spec_graph, impl_graph, root_rows, leaf_rows, banks, Visit, all_visits}
use Rattle.model.specs.Refusals.{Refusal}

-- the refusal, if the test passes
unfoldable pub when : Bool → ℕ → ℕ → ℕ → Option Refusal
when true n t r = some (record { number = n; table = t; row = r })
when false n t r = none

infixr 20 ◌then◌
-- the first refusal of two
unfoldable pub ◌then◌ : Option Refusal → Option Refusal → Option Refusal
none then c = c
some r then c = some r

-- the first refusal of a list of rows
unfoldable pub first_refusal : {A : Type 0} → (A → Option Refusal) → List A → Option Refusal
first_refusal check [] = none
first_refusal check (x ∷ xs) = let later = first_refusal check xs in check x then later

-- ---- 1: length no multiple of the row width, or more rows than the limit

-- the check of a shape
unfoldable pub check_shape : ℕ → ℕ → ℕ → List ℤ → Option Refusal
check_shape t width most xs = when (not (eqb (length xs % width) 0) || ltb (width * most) (length xs)) 1 t 0

-- ---- 2: unknown kind, unit or access; base < 0; range < 1; base + range > 2^48

-- space, segment or block
unfoldable pub is_kind : ℤ → Bool
is_kind k = eq_z k space || eq_z k segment || eq_z k block

-- 8, 16, 32, 64 or 128
unfoldable pub is_unit : ℤ → Bool
is_unit u = eq_z u (pos 8) || eq_z u (pos 16) || eq_z u (pos 32) || eq_z u (pos 64) || eq_z u (pos 128)

-- read and write, read only or write only
unfoldable pub is_access : ℤ → Bool
is_access a = eq_z a read_write || eq_z a read_only || eq_z a write_only

-- base and range of a node row keep their limits
unfoldable pub good_extent : Node → Bool
good_extent n = le_z (pos 0) n.base && le_z (pos 1) n.range && le_z (n.base +ℤ n.range) (pos max_units)

-- a node row with nothing of that
unfoldable pub good_node : Node → Bool
good_node n = is_kind n.kind && is_unit n.unit && is_access n.access && good_extent n

-- 2 for one row
unfoldable pub check_node : ℕ → Node → Option Refusal
check_node t n = when (not (good_node n)) 2 t n.row

-- ---- 3: an end is no node row, or offset outside −2^48 .. 2^48; 4: from is a block

-- the number of a node row
unfoldable pub is_row : Graph → ℤ → Bool
is_row g v = le_z (pos 0) v && lt_z v (pos (length g.nodes))

-- the offset of an edge row keeps its limits
unfoldable pub good_offset : Graph → Edge → Bool
good_offset g e = le_z (neg_ℤ (pos max_units)) e.offset && le_z e.offset (pos max_units)

-- an edge row that 3 is not for
unfoldable pub good_edge : Graph → Edge → Bool
good_edge g e = is_row g e.from && is_row g e.to && good_offset g e

-- 3 before 4 for one row
unfoldable pub check_edge : ℕ → Graph → Edge → Option Refusal
check_edge t g e = when (not (good_edge g e)) 3 t e.row then when (eq_z (node g e.from).kind block) 4 t e.row

-- ---- 5: a cycle; 6: some chain of more than 64 edges

-- each number once
unfoldable pub each : List ℤ → List ℤ
each [] = []
each (x ∷ xs) = let d = each xs in cond (any (eq_z x) d) d (x ∷ d)

-- the edges of the list that end at one of these nodes
unfoldable pub ending_at : List ℤ → List Edge → List Edge
ending_at starts es = keep (λ e. any (eq_z e.to) starts) es

-- the edges of the list that an edge of the list follows
unfoldable pub followed : List Edge → List Edge
followed es = ending_at (each (map (λ e. e.from) es)) es

-- the edges of the list that begin a chain of k + 1 of its edges
unfoldable pub begins : ℕ → List Edge → List Edge
begins zero es = es
begins (suc k) [] = []
begins (suc k) (e ∷ t) = begins k (followed (e ∷ t))

-- a cycle: some chain has more edges than there are nodes, and so comes to a node twice
unfoldable pub cyclic : Graph → Bool
cyclic g = not (is_nil (begins (length g.nodes) g.edges))

-- some chain has more than 64 edges
unfoldable pub deep : Graph → Bool
deep g = not (is_nil (begins max_chain g.edges))

-- ---- one graph: node shape, edge shape, node rows, edge rows (3 before 4), 5, 6

-- the check of a graph whose node table is t and whose edge table is t + 1
unfoldable pub check_graph : ℕ → List ℤ → List ℤ → Option Refusal
check_graph t ns es =
    check_shape t node_width max_nodes ns
    then check_shape (suc t) edge_width max_edges es
    then first_refusal (check_node t) (node_rows ns)
    then first_refusal (check_edge (suc t) (graph_of ns es)) (edge_rows es)
    then when (cyclic (graph_of ns es)) 5 t 0
    then when (deep (graph_of ns es)) 6 t 0

-- ---- a root and a leaf of a single graph: 7 the named node is no root, or no leaf; 10 more than 1,024 paths

-- a node row that is a space or segment, and no edge enters it
unfoldable pub is_root : Graph → ℤ → Bool
is_root g v =
    is_row g v && (eq_z (node g v).kind space || eq_z (node g v).kind segment) && not (any (λ e. eq_z e.to v) g.edges)

-- a node row that is a block
unfoldable pub is_leaf : Graph → ℤ → Bool
is_leaf g v = is_row g v && eq_z (node g v).kind block

-- more than 1,024 paths lead from r to these leaves, none of which stands twice
unfoldable pub many_paths : Graph → ℤ → List ℤ → Bool
many_paths g r ls = ltb max_paths (length (flat_map (paths g r) ls))

-- 7 for the root, 7 for the leaf, 10
unfoldable pub check_named : Graph → ℤ → ℤ → Option Refusal
check_named g r l = when (not (is_root g r)) 7 4 0 then when (not (is_leaf g l)) 7 5 0 then when (many_paths g r (l ∷ [])) 10 1 0

-- ---- 11: the output is longer than its buffer

-- the check of an output of this length
unfoldable pub check_output : ℕ → ℕ → Option Refusal
check_output output room = when (ltb room output) 11 7 0

-- ---- a pairing: 7 a paired node is no root, or no leaf; 16 `at` is outside 0 .. last_at, or not 0 in a root row; 8 a root stands in an earlier row on the same side,
-- or an implementation leaf in an earlier row; 10 in visiting order

-- `at` is in 0 .. most
unfoldable pub good_at : ℤ → Pair → Bool
good_at most p = le_z (pos 0) p.at && le_z p.at most

-- two root rows have a node in common on the same side
unfoldable pub same_root : Pair → Pair → Bool
same_root q p = eq_z q.spec p.spec || eq_z q.impl p.impl

-- two leaf rows have the same implementation leaf
unfoldable pub same_impl : Pair → Pair → Bool
same_impl q p = eq_z q.impl p.impl

-- q is an earlier row, and stands in this relation to p
unfoldable pub clashes : (Pair → Pair → Bool) → Pair → Pair → Bool
clashes same p q = ltb q.row p.row && same q p

-- 7, then 16, then 8 for one row
unfoldable pub check_pair : ℕ → (ℤ → Bool) → (ℤ → Bool) → ℤ → (Pair → Pair → Bool) → List Pair → Pair → Option Refusal
check_pair t spec impl most same rows p =
    when (not (spec p.spec && impl p.impl)) 7 t p.row
    then when (not (good_at most p)) 16 t p.row
    then when (any (clashes same p) rows) 8 t p.row

-- 10 for one pair, specification first
unfoldable pub check_visit : Tables → Visit → Option Refusal
check_visit t v =
    when (many_paths (spec_graph t) v.root.spec (v.leaf.spec ∷ [])) 10 1 (v.root.row * root_stride + v.leaf.row)
    then when (many_paths (impl_graph t) v.root.impl (leaves_of (banks t v.leaf))) 10 3 (v.root.row * root_stride + v.leaf.row)

-- shapes of 4 and 5, 9 for 4 and for 5, rows of 4, rows of 5, then 10
unfoldable pub check_pairing : Tables → Option Refusal
check_pairing t =
    check_shape 4 pair_width max_pairs t.root_pairs
    then check_shape 5 pair_width max_pairs t.leaf_pairs
    then when (is_nil (root_rows t)) 9 4 0
    then when (is_nil (leaf_rows t)) 9 5 0
    then first_refusal (check_pair 4 (is_root (spec_graph t)) (is_root (impl_graph t)) (pos 0) same_root (root_rows t)) (root_rows t)
    then first_refusal (check_pair 5 (is_leaf (spec_graph t)) (is_leaf (impl_graph t)) last_at same_impl (leaf_rows t)) (leaf_rows t)
    then first_refusal (check_visit t) (all_visits t)

-- ---- the calls

-- walk and list, whose output has the given length
unfoldable pub check_single : List ℤ → List ℤ → ℤ → ℤ → ℕ → ℕ → Option Refusal
check_single ns es r l output room = check_graph 0 ns es then check_named (graph_of ns es) r l then check_output output room

-- compare two graphs
unfoldable pub check_tables : Tables → Option Refusal
check_tables t = check_graph 0 t.spec_nodes t.spec_edges then check_graph 2 t.impl_nodes t.impl_edges then check_pairing t
