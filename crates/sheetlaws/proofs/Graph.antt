-- The graph of a sheet: its nodes are a space for each initiator and then a block for each block, its edges are those of the lines.
use mathlib.Core.Path.{◌≡◌, refl, sym, ap, ◌∙◌}
use mathlib.Core.Logic.{◌⊎◌, inl, inr, ⊎_elim}
use mathlib.Core.List.Memᴰ
use mathlib.Core.List.{List, ◌++◌, flat_map}
use Prim.Native.Nat.{ℕ, ◌+◌, ◌*◌, ◌≤◌, ◌<◌}
use native.Mathlib.Nat.{zero-add}
use native.Mathlib.Omega.{arith}
use lib.IntN.{ℤ, pos}
use lib.ListN.{length, get_or, length-append, get_or-append}
use lib.Seq.{get_or-append-add}
use Rattle.lists.specs.Lists.{◌∈◌}
use Rattle.model.specs.Limits.{node_width, edge_width, max_nodes, sheet_bytes, byte_bits}
use Rattle.model.specs.Rows.{Node, Edge, nodes_from, edges_from}
use Rattle.model.specs.Graph.{graph_of, no_node, node, space, block, read_write}
use Rattle.model.specs.Sheet.{SheetLine, GoodSheet, initiators, blocks, place_among, initiator_row, block_row, size_of, byte_node, sheet_nodes, edge_of, sheet_edges, sheet_graph}
use Rattle.sheetlaws.proofs.Rows.{counted, counted_length, counted-at, counted_in, counted_out, rows-read, rows_all, written_length}
use Rattle.sheetlaws.proofs.Places.{place-within, place_at}
use Rattle.sheetlaws.proofs.Lines.{initiators-few, blocks-few}

-- ---- the numbers of the tables

-- five numbers for each initiator and each block
pub nodes_length : (ls : List SheetLine) → length (sheet_nodes ls) ≡ node_width * (length (initiators ls) + length (blocks ls))
unfolding sheet_nodes byte_node
nodes_length ls =
    let spaces : ℤ → List ℤ = λ n. byte_node space (pos sheet_bytes) in
    let sized : ℤ → List ℤ = λ m. byte_node block (size_of ls m) in
    omega (
      arith,
      length-append (flat_map spaces (initiators ls)) (flat_map sized (blocks ls)),
      written_length node_width spaces (λ n. refl) (initiators ls),
      written_length node_width sized (λ m. refl) (blocks ls),
    )

-- three numbers for each line
pub edges_length : (ls : List SheetLine) → length (sheet_edges ls) ≡ edge_width * length ls
unfolding sheet_edges edge_of
edges_length ls = written_length edge_width (edge_of ls) (λ s. refl) ls

-- a good sheet makes no more nodes than a table may have
pub nodes-few : {ls : List SheetLine} → GoodSheet ls → length (sheet_nodes ls) ≤ node_width * max_nodes
nodes-few {ls} g = omega (arith, nodes_length ls, initiators-few g, blocks-few g)

-- ---- the rows of the tables

-- node row i of base 0 and unit 8, which may be read and written
abbrev pub node_of : ℤ → ℤ → ℕ → Node
node_of kind range i = record { row = i; kind = kind; base = pos 0; range = range; unit = pos byte_bits; access = read_write }

-- a space of 2^48 bytes
abbrev pub space_node : ℕ → ℤ → Node
space_node i n = node_of space (pos sheet_bytes) i

-- the node of block m
abbrev pub block_node : List SheetLine → ℕ → ℤ → Node
block_node ls i m = node_of block (size_of ls m) i

-- the edge of a line
abbrev pub line_edge : List SheetLine → ℕ → SheetLine → Edge
line_edge ls i s = record { row = i; from = pos (initiator_row ls s.initiator); to = pos (block_row ls s.block); offset = s.base }

-- the spaces of the initiators, and behind them the nodes of the blocks
abbrev space_nodes : List SheetLine → List Node
space_nodes ls = counted space_node 0 (initiators ls)

abbrev block_nodes : List SheetLine → List Node
block_nodes ls = counted (block_node ls) (length (initiators ls)) (blocks ls)

module _ (ls : List SheetLine) where
  -- the nodes: spaces, then blocks
  graph-nodes : (sheet_graph ls).nodes ≡ space_nodes ls ++ block_nodes ls
  unfolding sheet_graph graph_of sheet_nodes byte_node nodes_from
  graph-nodes =
      rows-read nodes_from space_node (λ n. byte_node space (pos sheet_bytes)) (λ i n rest. refl) 0 (initiators ls)
      (flat_map (λ m. byte_node block (size_of ls m)) (blocks ls))
      ∙ ap (λ t. space_nodes ls ++ t)
      (rows_all nodes_from (block_node ls) (λ m. byte_node block (size_of ls m)) (λ i m rest. refl) (λ i. refl) (0 + length (initiators ls)) (blocks ls)
      ∙ ap (λ i. counted (block_node ls) i (blocks ls)) (zero-add (length (initiators ls))))

  -- the edges: one for each line
  graph-edges : (sheet_graph ls).edges ≡ counted (line_edge ls) 0 ls
  unfolding sheet_graph graph_of sheet_edges edge_of edges_from
  graph-edges = rows_all edges_from (line_edge ls) (edge_of ls) (λ i s rest. refl) (λ i. refl) 0 ls

  -- how many nodes there are
  pub graph-size : length (sheet_graph ls).nodes ≡ length (initiators ls) + length (blocks ls)
  graph-size =
      omega (
        arith,
        ap length graph-nodes,
        length-append (space_nodes ls) (block_nodes ls),
        counted_length space_node 0 (initiators ls),
        counted_length (block_node ls) (length (initiators ls)) (blocks ls),
      )

  -- a node is a space or the node of a block on the sheet
  pub node_out : {n : Node} → n ∈ (sheet_graph ls).nodes
      → ((i : ℕ) × (n ≡ node_of space (pos sheet_bytes) i)) ⊎ ((i : ℕ) × (m : ℤ) × (m ∈ blocks ls) × (n ≡ block_node ls i m))
  node_out {n} k =
      ⊎_elim (λ j. let w = counted_out space_node 0 (initiators ls) j in inl (w.0, w.3))
      (λ j. inr (counted_out (block_node ls) (length (initiators ls)) (blocks ls) j))
      (Memᴰ.append_cases (space_nodes ls) (rw graph-nodes at k))

  -- an edge is that of a line
  pub edge_out : {e : Edge} → e ∈ (sheet_graph ls).edges → (i : ℕ) × (s : SheetLine) × (s ∈ ls) × (e ≡ line_edge ls i s)
  edge_out m = counted_out (line_edge ls) 0 ls (rw graph-edges at m)

  -- each line has its edge
  pub edge_in : {s : SheetLine} → s ∈ ls → (i : ℕ) × (line_edge ls i s ∈ (sheet_graph ls).edges)
  edge_in m = let w = counted_in (line_edge ls) 0 m in (w.0, rw graph-edges w.1)

  -- ---- the node at a row

  -- a row below the number of initiators is a space
  pub space-at : (k : ℕ) → k < length (initiators ls) → node (sheet_graph ls) (pos k) ≡ node_of space (pos sheet_bytes) k
  unfolding node
  space-at k h =
      let e : 0 + k ≡ k = omega arith in
      ap (λ l. get_or l k no_node) graph-nodes
      ∙ get_or-append (space_nodes ls) (block_nodes ls) no_node k
      (omega (arith, counted_length space_node 0 (initiators ls)))
      ∙ counted-at space_node 0 (initiators ls) k no_node (pos 0) h
      ∙ ap (node_of space (pos sheet_bytes)) e

  -- a row behind them is the node of the block that has that place
  pub block_at : (k : ℕ) → k < length (blocks ls)
      → node (sheet_graph ls) (pos (length (initiators ls) + k)) ≡ block_node ls (length (initiators ls) + k) (get_or (blocks ls) k (pos 0))
  unfolding node
  block_at k h =
      ap (λ l. get_or l (length (initiators ls) + k) no_node) graph-nodes
      ∙ ap (λ j. get_or (space_nodes ls ++ block_nodes ls) (j + k) no_node)
      (sym (counted_length space_node 0 (initiators ls)))
      ∙ get_or-append-add (space_nodes ls) (block_nodes ls) k no_node
      ∙ counted-at (block_node ls) (length (initiators ls)) (blocks ls) k no_node (pos 0) h

  -- the row of an initiator is below the number of initiators
  pub initiator-row : {n : ℤ} → n ∈ initiators ls → initiator_row ls n < length (initiators ls)
  unfolding initiator_row
  initiator-row m = place-within (initiators ls) m

  -- the row of a block lies behind the initiators, and is a row
  pub block-row : {m : ℤ} → m ∈ blocks ls → (length (initiators ls) ≤ block_row ls m) × (block_row ls m < length (initiators ls) + length (blocks ls))
  unfolding block_row
  block-row m = omega (arith, place-within (blocks ls) m)

  -- the node of an initiator is a space
  pub initiator-node : {n : ℤ} → n ∈ initiators ls → node (sheet_graph ls) (pos (initiator_row ls n)) ≡ node_of space (pos sheet_bytes) (initiator_row ls n)
  initiator-node {n} m = space-at (initiator_row ls n) (initiator-row m)

  -- the node of a block is a block of its size
  pub block-node : {m : ℤ} → m ∈ blocks ls → node (sheet_graph ls) (pos (block_row ls m)) ≡ block_node ls (block_row ls m) m
  unfolding block_row
  block-node {m} i =
      block_at (place_among m (blocks ls)) (place-within (blocks ls) i)
      ∙ ap (block_node ls (length (initiators ls) + place_among m (blocks ls))) (place_at (blocks ls) (pos 0) i)
