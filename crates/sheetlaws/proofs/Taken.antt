-- The graph of a good sheet with no more lines than an edge table may have rows is taken: no condition for a refusal holds.
use mathlib.Core.Path.{◌≡◌, refl, ap}
use mathlib.Core.Logic.{inl, inr, ⊎_elim}
use mathlib.Core.List.{List, flat_map}
use Prim.Native.Nat.{ℕ, ◌*◌, ◌%◌, ◌≤◌}
use native.Mathlib.Omega.{arith}
use lib.IntN.{ℤ, pos}
use lib.Signed.{◌≤ℤ◌}
use lib.ListN.{length}
use Rattle.integers.proofs.Linear.{ints, sum, neg}
use Rattle.lists.specs.Lists.{◌∈◌}
use Rattle.model.specs.Limits.{node_width, edge_width, max_nodes, max_edges, max_units, sheet_bytes}
use Rattle.model.specs.Rows.{Node, Edge, node_rows, edge_rows}
use Rattle.model.specs.Graph.{graph_of, NodeRow, node, space, block}
use Rattle.model.specs.Paths.{Cycle, LongChain}
use Rattle.model.specs.Refusals.{NoneHolds, refuse, ◌next◌, Kind, BadShape, broken, too_many, BadNode, unknown_kind, unknown_unit, unknown_access, low_base, low_range, high_end, BadEdge, no_from, no_to, low_offset, high_offset, shape_conditions, node_conditions, edge_conditions, row_conditions, graph_conditions, check_conditions}
use Rattle.model.specs.Calls.{full, check_answer}
use Rattle.model.specs.Sheet.{SheetLine, GoodSheet, size_of, sheet_nodes, sheet_edges, sheet_graph}
use Rattle.model.proofs.Settled.{none-next, none_flat_map}
use Rattle.model.proofs.GraphChecks.{check-exact}
use Rattle.sheetlaws.proofs.Lines.{good-line, block_size}
use Rattle.sheetlaws.proofs.Graph.{nodes_length, edges_length, nodes-few, node_of, graph-size, node_out, edge_out, space-at}
use Rattle.sheetlaws.proofs.Ways.{edge_from, edge_to, cycle_none, chain-none}

-- a table of whole rows, and not too many, has no bad shape
shape_none : (width most : ℕ) (xs : List ℤ) → length xs % width ≡ 0 → length xs ≤ width * most → BadShape width most xs → ⊥
shape_none width most xs whole few (broken n) = n whole
shape_none width most xs whole few (too_many h) = omega arith

-- a node of base 0 and unit 8 is not bad where its kind is known and its range lies in 1 .. 2^48
byte_node-good : (kind range : ℤ) (i : ℕ) → Kind kind → pos 1 ≤ℤ range → range ≤ℤ pos sheet_bytes → BadNode (node_of kind range i) → ⊥
byte_node-good kind range i known low high (unknown_kind n) = n known
byte_node-good kind range i known low high (unknown_unit n) = n (inl refl)
byte_node-good kind range i known low high (unknown_access n) = n (inl refl)
byte_node-good kind range i known low high (low_base h) = omega (arith, ints)
byte_node-good kind range i known low high (low_range h) = omega (arith, ints)
byte_node-good kind range i known low high (high_end h) = omega (arith, ints, sum (pos 0) range)

module _ {ls : List SheetLine} (g : GoodSheet ls) where
  -- no node is bad
  pub nodes-good : {n : Node} → n ∈ (sheet_graph ls).nodes → BadNode n → ⊥
  nodes-good m =
      ⊎_elim (λ w. rw w.1 (byte_node-good space (pos sheet_bytes) w.0 (inl refl) (omega (arith, ints)) (omega (arith, ints))))
      (λ w. let z = block_size g w.2 in rw w.3 (byte_node-good block (size_of ls w.1) w.0 (inr (inr refl)) z.0 z.1))
      (node_out ls m)

  -- no edge is bad
  pub edges-good : {e : Edge} → e ∈ (sheet_graph ls).edges → BadEdge (sheet_graph ls) e → ⊥
  edges-good {e} m = bad
    where
      from : NodeRow (sheet_graph ls) e.from
      from =
          let k = edge_from ls m in
          record { low = omega (arith, ints, k.2); high = omega (arith, ints, k.1, k.2, graph-size ls) }

      to : NodeRow (sheet_graph ls) e.to
      to =
          let k = edge_to ls m in
          record { low = omega (arith, ints, k.3); high = omega (arith, ints, k.2, k.3, graph-size ls) }

      offset : (pos 0 ≤ℤ e.offset) × (e.offset ≤ℤ pos max_units)
      offset =
          let w = edge_out ls m in
          let s = w.1 in
          let b = good-line g w.2 in
          let q : e.offset ≡ s.base = ap (λ d. d.offset) w.3 in
          (omega (arith, ints, b.base), omega (arith, ints, b.size, b.end, sum s.base s.size))

      bad : BadEdge (sheet_graph ls) e → ⊥
      bad (no_from n) = n from
      bad (no_to n) = n to
      bad (low_offset h) = omega (arith, ints, offset.0, neg (pos max_units))
      bad (high_offset h) = omega (arith, ints, offset.1)

  -- no edge starts at a block
  pub edges-from-space : {e : Edge} → e ∈ (sheet_graph ls).edges → (node (sheet_graph ls) e.from).kind ≡ block → ⊥
  edges-from-space {e} m q =
      let k = edge_from ls m in
      let kind = ap (λ v. (node (sheet_graph ls) v).kind) k.2 in
      let here = ap (λ n. n.kind) (space-at ls k.0 k.1) in
      let z : pos 0 ≡ pos 2 = cc in
      omega (arith, ints)

-- no condition for a refusal holds
pub sheet_taken : (ls : List SheetLine) → GoodSheet ls → length ls ≤ max_edges → NoneHolds (graph_conditions 0 (sheet_nodes ls) (sheet_edges ls))
unfolding graph_conditions row_conditions shape_conditions node_conditions edge_conditions sheet_graph graph_of
sheet_taken ls g few =
    let ns = sheet_nodes ls in
    let es = sheet_edges ls in
    let Chains = refuse 5 0 0 (Cycle (sheet_graph ls)) next refuse 6 0 0 (LongChain (sheet_graph ls)) in
    let Nodes = flat_map (node_conditions 0) (node_rows ns) in
    let Edges = flat_map (edge_conditions 1 (sheet_graph ls)) (edge_rows es) in
    let nodes = (none_flat_map (node_conditions 0) (node_rows ns)).1 (λ n m. (nodes-good g m, tt)) in
    let edges = (none_flat_map (edge_conditions 1 (sheet_graph ls)) (edge_rows es)).1 (λ e m. (edges-good g m, (edges-from-space g m, tt))) in
    let chains : NoneHolds Chains = (cycle_none ls, (chain-none ls, tt)) in
    let nodeShape = shape_none node_width max_nodes ns (omega (arith, nodes_length ls)) (nodes-few g) in
    let edgeShape = shape_none edge_width max_edges es (omega (arith, edges_length ls)) (omega (arith, edges_length ls)) in
    (nodeShape, (edgeShape, (none-next (Nodes next Edges) Chains).1 ((none-next Nodes Edges).1 (nodes, edges), chains)))

-- the check takes the graph
pub sheet_checked : (ls : List SheetLine) → GoodSheet ls → length ls ≤ max_edges → check_answer (sheet_nodes ls) (sheet_edges ls) ≡ full tt
unfolding check_conditions
sheet_checked ls g few = (check-exact (sheet_nodes ls) (sheet_edges ls)).gives.1 (sheet_taken ls g few)
