-- The check of one graph settles its conditions: each test on a table, a node row and an edge row decides its condition, and so do the
-- tests for a root and for a leaf.
use mathlib.Core.Path.{◌≡◌, sym, subst}
use mathlib.Core.Bool.{not, ◌||◌}
use mathlib.Core.Logic.{◌⊎◌, ◌≢◌, inl, inr, ⊎_elim}
use mathlib.Core.List.{List, flat_map, append_assoc}
use Prim.Native.Nat.{ℕ, suc, ◌*◌, ◌%◌, ◌<◌}
use native.Mathlib.Omega.{arith}
use lib.Dec.{eqb, ltb}
use lib.IntN.{ℤ, pos, neg_ℤ, ◌+ℤ◌}
use lib.Signed.{◌≤ℤ◌, ◌<ℤ◌}
use lib.ListN.{length}
use Rattle.integers.specs.Integers.{eq_z}
use Rattle.integers.proofs.Linear.{ints}
use Rattle.integers.proofs.Tests.{Test, le?, lt?, eq_z?, eq?}
use Rattle.lists.specs.Lists.{◌∈◌}
use Rattle.model.specs.Limits.{node_width, edge_width, max_nodes, max_edges, max_units}
use Rattle.model.specs.Rows.{Node, Edge, node_rows, edge_rows}
use Rattle.model.specs.Graph.{Graph, graph_of, NodeRow, node, space, segment, block, read_write, read_only, write_only}
use Rattle.model.specs.Paths.{Root, Leaf, Cycle, LongChain}
use Rattle.model.specs.Refusals.{Condition, NoneHolds, refuse, ◌next◌, BadShape, broken, too_many, Kind, AddressUnit, Access, HighEnd, LowOffset, HighOffset, BadNode, unknown_kind, unknown_unit, unknown_access, low_base, low_range, high_end, BadEdge, no_from, no_to, low_offset, high_offset, shape_conditions, node_conditions, edge_conditions, row_conditions, graph_conditions, check_conditions}
use Rattle.model.specs.Checks.{when, ◌then◌, first_refusal, check_shape, is_kind, is_unit, is_access, good_extent, good_node, check_node, is_row, good_offset, good_edge, check_edge, cyclic, deep, check_graph, is_root, is_leaf}
use Rattle.model.specs.Calls.{check_answer}
use Rattle.lists.proofs.Decisions.{Decides, test_map, not?, and?, decides_as, decides_and, decides_le, any?, test_stable, decides_not, decides_or, or_regroup, decides_lt}
use Rattle.model.proofs.Settled.{Settled, settled_next, settled_when, settled_each, none_flat_map, Exact, answer-exact}
use Rattle.model.proofs.Chains.{cyclic?, deep?}

-- ---- the shape of a table

-- the test on a table's length decides whether its shape is bad
pub shape? : (width most : ℕ) (xs : List ℤ) → Decides (BadShape width most xs) (not (eqb (length xs % width) 0) || ltb (width * most) (length xs))
shape? width most xs =
    decides_as (λ c. ⊎_elim broken too_many c, parts) (decides_or (decides_not (eq? (length xs % width) 0)) (decides_lt (width * most) (length xs)))
  where
    parts : BadShape width most xs → (length xs % width ≢ 0) ⊎ (width * most < length xs)
    parts (broken n) = inl n
    parts (too_many h) = inr h

-- the check of a table's shape settles its condition
pub shape_settled : (t width most : ℕ) (xs : List ℤ) → Settled (check_shape t width most xs) (shape_conditions t width most xs)
unfolding check_shape shape_conditions
shape_settled t width most xs = settled_when 1 t 0 (shape? width most xs)

-- ---- node rows

-- the test on a kind
pub is_kind? : (k : ℤ) → Decides (Kind k) (is_kind k)
unfolding is_kind
is_kind? k =
    or_regroup (eq_z k space) (eq_z k segment) (eq_z k block) (decides_or (eq_z? k space) (decides_or (eq_z? k segment) (eq_z? k block)))

-- the test on an address unit
pub is_unit? : (u : ℤ) → Decides (AddressUnit u) (is_unit u)
unfolding is_unit
is_unit? u =
    let a = eq_z u (pos 8) in
    let b = eq_z u (pos 16) in
    let c = eq_z u (pos 32) in
    let d = eq_z u (pos 64) in
    let e = eq_z u (pos 128) in
    or_regroup (a || b || c) d e
    (or_regroup (a || b) c (d || e)
    (or_regroup a b (c || (d || e))
    (decides_or (eq_z? u (pos 8))
    (decides_or (eq_z? u (pos 16)) (decides_or (eq_z? u (pos 32)) (decides_or (eq_z? u (pos 64)) (eq_z? u (pos 128))))))))

-- the test on an access
pub is_access? : (a : ℤ) → Decides (Access a) (is_access a)
unfolding is_access
is_access? a =
    or_regroup (eq_z a read_write) (eq_z a read_only) (eq_z a write_only) (decides_or (eq_z? a read_write) (decides_or (eq_z? a read_only) (eq_z? a write_only)))

-- base and range keep their limits
abbrev pub GoodExtent : Node → Type 0
GoodExtent n = ((pos 0 ≤ℤ n.base) × (pos 1 ≤ℤ n.range)) × ((n.base +ℤ n.range) ≤ℤ pos max_units)

-- or do not
abbrev BadExtent : Node → Type 0
BadExtent n = ((n.base <ℤ pos 0) ⊎ (n.range <ℤ pos 1)) ⊎ HighEnd n

-- the test on base and range
pub extent? : (n : Node) → Test (GoodExtent n) (BadExtent n) (good_extent n)
unfolding good_extent
extent? n = and? (and? (le? (pos 0) n.base) (le? (pos 1) n.range)) (le? (n.base +ℤ n.range) (pos max_units))

-- the test on a node row decides whether it is bad
pub node? : (n : Node) → Decides (BadNode n) (not (good_node n))
unfolding good_node
node? n =
    let named = and? (and? (is_kind? n.kind) (is_unit? n.unit)) (is_access? n.access) in
    test_map bad good (not? (and? named (extent? n)))
  where
    bad : (((Kind n.kind → ⊥) ⊎ (AddressUnit n.unit → ⊥)) ⊎ (Access n.access → ⊥)) ⊎ BadExtent n → BadNode n
    bad (inl (inl (inl k))) = unknown_kind k
    bad (inl (inl (inr u))) = unknown_unit u
    bad (inl (inr a)) = unknown_access a
    bad (inr (inl (inl h))) = low_base h
    bad (inr (inl (inr h))) = low_range h
    bad (inr (inr h)) = high_end h

    good : ((Kind n.kind × AddressUnit n.unit) × Access n.access) × GoodExtent n → BadNode n → ⊥
    good p (unknown_kind k) = k p.0.0.0
    good p (unknown_unit u) = u p.0.0.1
    good p (unknown_access a) = a p.0.1
    good p (low_base h) = omega (arith, ints, p.1.0.0)
    good p (low_range h) = omega (arith, ints, p.1.0.1)
    good p (high_end h) = omega (arith, ints, p.1.1)

-- the check of a node row settles its condition
pub node_settled : (t : ℕ) (n : Node) → Settled (check_node t n) (node_conditions t n)
unfolding check_node node_conditions
node_settled t n = settled_when 2 t n.row (node? n)

-- ---- edge rows

-- the test for a node row
pub is_row? : (g : Graph) (v : ℤ) → Decides (NodeRow g v) (is_row g v)
unfolding is_row
is_row? g v =
    decides_as (λ p. record { low = p.0; high = p.1 }, λ r. (r.low, r.high))
    (decides_and (decides_le (pos 0) v) (test_map (λ h. h) (λ h k. omega (arith, ints)) (lt? v (pos (length g.nodes)))))

-- the offset keeps its limits
abbrev pub GoodOffset : Graph → Edge → Type 0
GoodOffset g e = (neg_ℤ (pos max_units) ≤ℤ e.offset) × (e.offset ≤ℤ pos max_units)

-- the test on an offset
pub offset? : (g : Graph) (e : Edge) → Test (GoodOffset g e) (LowOffset g e ⊎ HighOffset g e) (good_offset g e)
unfolding good_offset
offset? g e = and? (le? (neg_ℤ (pos max_units)) e.offset) (le? e.offset (pos max_units))

-- the test on an edge row decides whether it is bad
pub edge? : (g : Graph) (e : Edge) → Decides (BadEdge g e) (not (good_edge g e))
unfolding good_edge
edge? g e =
    let ends = and? (is_row? g e.from) (is_row? g e.to) in
    test_map bad good (not? (and? ends (offset? g e)))
  where
    bad : ((NodeRow g e.from → ⊥) ⊎ (NodeRow g e.to → ⊥)) ⊎ (LowOffset g e ⊎ HighOffset g e) → BadEdge g e
    bad (inl (inl n)) = no_from n
    bad (inl (inr n)) = no_to n
    bad (inr (inl h)) = low_offset h
    bad (inr (inr h)) = high_offset h

    good : (NodeRow g e.from × NodeRow g e.to) × GoodOffset g e → BadEdge g e → ⊥
    good p (no_from n) = n p.0.0
    good p (no_to n) = n p.0.1
    good p (low_offset h) = omega (arith, ints, p.1.0)
    good p (high_offset h) = omega (arith, ints, p.1.1)

-- the check of an edge row settles its two conditions
pub edge_settled : (t : ℕ) (g : Graph) (e : Edge) → Settled (check_edge t g e) (edge_conditions t g e)
unfolding check_edge edge_conditions
edge_settled t g e =
    settled_next (when (not (good_edge g e)) 3 t e.row) (when (eq_z (node g e.from).kind block) 4 t e.row)
    (refuse 3 t e.row (BadEdge g e))
    (refuse 4 t e.row ((node g e.from).kind ≡ block))
    (settled_when 3 t e.row (edge? g e))
    (λ p. settled_when 4 t e.row (eq_z? (node g e.from).kind block))

-- ---- roots and leaves

-- the test for a root
pub is_root? : (g : Graph) (v : ℤ) → Decides (Root g v) (is_root g v)
unfolding is_root
is_root? g v =
    decides_as (λ p. record { row = p.0.0; kind = p.0.1; unentered = p.1 }, λ r. ((r.row, r.kind), r.unentered))
    (decides_and (decides_and (is_row? g v) (decides_or (eq_z? (node g v).kind space) (eq_z? (node g v).kind segment)))
    (test_map (λ n. n) (λ w n. n w.0 w.1 w.2) (not? (any? (λ e. eq_z? e.to v) g.edges))))

-- the test for a leaf
pub is_leaf? : (g : Graph) (v : ℤ) → Decides (Leaf g v) (is_leaf g v)
unfolding is_leaf
is_leaf? g v = decides_as (λ p. record { row = p.0; kind = p.1 }, λ r. (r.row, r.kind)) (decides_and (is_row? g v) (eq_z? (node g v).kind block))

-- ---- one graph

module _ (t : ℕ) (g : Graph) (h : NoneHolds (flat_map (edge_conditions t g) g.edges)) where
  -- where no condition of an edge row holds, none is bad
  pub edges-good : (e : Edge) → e ∈ g.edges → BadEdge g e → ⊥
  unfolding edge_conditions
  edges-good e m = ((none_flat_map (edge_conditions t g) g.edges).0 h e m).0

  -- then its ends are node rows
  pub edges_end : (e : Edge) → e ∈ g.edges → NodeRow g e.from × NodeRow g e.to
  edges_end e m =
      (test_stable (is_row? g e.from) (λ n. edges-good e m (no_from n)), test_stable (is_row? g e.to) (λ n. edges-good e m (no_to n)))

-- the checks for a cycle and for a long chain settle their conditions, where the ends of all edges are node rows
pub chains_settled : (t : ℕ) (g : Graph) → ((e : Edge) → e ∈ g.edges → NodeRow g e.from × NodeRow g e.to)
    → Settled (when (cyclic g) 5 t 0 then when (deep g) 6 t 0) (refuse 5 t 0 (Cycle g) next refuse 6 t 0 (LongChain g))
chains_settled t g h =
    settled_next (when (cyclic g) 5 t 0) (when (deep g) 6 t 0) (refuse 5 t 0 (Cycle g)) (refuse 6 t 0 (LongChain g))
    (settled_when 5 t 0 (cyclic? g h))
    (λ p. settled_when 6 t 0 (deep? g))

-- the check of one graph settles its conditions, shown from the last part to the first. The test for a cycle counts on edges whose ends are
-- node rows: it stands after the conditions that say so. The conditions of shape and rows stand together, and are regrouped at the end
pub graph_settled : (t : ℕ) (ns es : List ℤ) → Settled (check_graph t ns es) (graph_conditions t ns es)
unfolding check_graph shape_conditions row_conditions graph_conditions graph_of
graph_settled t ns es =
    let g = graph_of ns es in
    let chains = when (cyclic g) 5 t 0 then when (deep g) 6 t 0 in
    let Chains = refuse 5 t 0 (Cycle g) next refuse 6 t 0 (LongChain g) in
    let edges = first_refusal (check_edge (suc t) g) (edge_rows es) in
    let Edges = flat_map (edge_conditions (suc t) g) (edge_rows es) in
    let eachEdge = settled_each (check_edge (suc t) g) (edge_conditions (suc t) g) (edge_rows es) (λ e m. edge_settled (suc t) g e) in
    let fromEdges = settled_next edges chains Edges Chains eachEdge (λ h. chains_settled t g (edges_end (suc t) g h)) in
    let nodes = first_refusal (check_node t) (node_rows ns) in
    let Nodes = flat_map (node_conditions t) (node_rows ns) in
    let eachNode = settled_each (check_node t) (node_conditions t) (node_rows ns) (λ n m. node_settled t n) in
    let fromNodes = settled_next nodes (edges then chains) Nodes (Edges next Chains) eachNode (λ h. fromEdges) in
    let shape = check_shape (suc t) edge_width max_edges es in
    let Shape = shape_conditions (suc t) edge_width max_edges es in
    let edgeShape = shape_settled (suc t) edge_width max_edges es in
    let fromShape = settled_next shape (nodes then edges then chains) Shape (Nodes next Edges next Chains) edgeShape (λ h. fromNodes) in
    let First = shape_conditions t node_width max_nodes ns in
    subst (λ (rows : List Condition). Settled (check_graph t ns es) (First next Shape next rows)) (sym (append_assoc Nodes Edges Chains))
    (settled_next (check_shape t node_width max_nodes ns) (shape then nodes then edges then chains) First
    (Shape next Nodes next Edges next Chains) (shape_settled t node_width max_nodes ns) (λ h. fromShape))

-- ---- the call that checks one graph

-- the check of one graph refuses exactly with the refusal of the first condition that holds, and takes the graph exactly when none holds
pub check-exact : (ns es : List ℤ) → Exact (check_answer ns es) tt (check_conditions ns es)
unfolding check_answer check_conditions
check-exact ns es = answer-exact tt (check_graph 0 ns es) (graph_conditions 0 ns es) (graph_settled 0 ns es)
