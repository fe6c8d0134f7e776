-- The tables of a good sheet are printable: their numbers lie in 0 .. 2^48, and they have no more rows than a graph may have.
use mathlib.Core.Path.{sym, subst}
use mathlib.Core.Logic.{⊎_elim}
use mathlib.Core.List.Memᴰ
use mathlib.Core.List.{List, flat_map}
use Prim.Native.Nat.{ℕ, ◌≤◌}
use native.Mathlib.Omega.{arith}
use lib.IntN.{ℤ, pos}
use lib.ListN.{length}
use Rattle.integers.proofs.Linear.{ints, sum}
use Rattle.lists.specs.Lists.{◌∈◌}
use Rattle.lists.proofs.Membership.{flat_map_out}
use Rattle.model.specs.Limits.{max_edges, max_units, sheet_bytes}
use Rattle.model.specs.Graph.{space, block}
use Rattle.model.specs.Sheet.{SheetLine, GoodSheet, initiators, blocks, size_of, byte_node, sheet_nodes, edge_of, sheet_edges}
use Rattle.graphlines.specs.Rows.{Printed, Printable}
use Rattle.sheetlaws.proofs.Lines.{line-initiator, line-block, good-line, block_size, initiators-few, blocks-few}
use Rattle.sheetlaws.proofs.Graph.{nodes-few, edges_length, initiator-row, block-row}

-- a small natural number
small-printed : (n : ℕ) → n ≤ max_units → Printed (pos n)
small-printed n h = (omega (arith, ints), omega (arith, ints))

-- the numbers of a node
node-printed : (kind range : ℤ) → Printed kind → Printed range → {v : ℤ} → v ∈ byte_node kind range → Printed v
unfolding byte_node
node-printed kind range k r (Memᴰ.head e) = subst Printed (sym e) k
node-printed kind range k r (Memᴰ.tail (Memᴰ.head e)) = subst Printed (sym e) (small-printed 0 (omega arith))
node-printed kind range k r (Memᴰ.tail (Memᴰ.tail (Memᴰ.head e))) = subst Printed (sym e) r
node-printed kind range k r (Memᴰ.tail (Memᴰ.tail (Memᴰ.tail (Memᴰ.head e)))) = subst Printed (sym e) (small-printed 8 (omega arith))
node-printed kind range k r (Memᴰ.tail (Memᴰ.tail (Memᴰ.tail (Memᴰ.tail (Memᴰ.head e))))) = subst Printed (sym e) (small-printed 0 (omega arith))
node-printed kind range k r (Memᴰ.tail (Memᴰ.tail (Memᴰ.tail (Memᴰ.tail (Memᴰ.tail m))))) = absurd (Memᴰ.not-nil m)

module _ {ls : List SheetLine} (g : GoodSheet ls) where
  -- the numbers of the node table
  nodes-printed : (v : ℤ) → v ∈ sheet_nodes ls → Printed v
  unfolding sheet_nodes
  nodes-printed v m =
      ⊎_elim (λ (k : v ∈ flat_map (λ n. byte_node space (pos sheet_bytes)) (initiators ls)).
      let w = flat_map_out (λ n. byte_node space (pos sheet_bytes)) (initiators ls) k in
      node-printed space (pos sheet_bytes) (small-printed 0 (omega arith)) (small-printed sheet_bytes (omega arith)) w.2)
      (λ (k : v ∈ flat_map (λ m. byte_node block (size_of ls m)) (blocks ls)).
      let w = flat_map_out (λ m. byte_node block (size_of ls m)) (blocks ls) k in
      let z = block_size g w.1 in
      node-printed block (size_of ls w.0) (small-printed 2 (omega arith)) (omega (arith, ints, z.0), z.1) w.2)
      (Memᴰ.append_cases (flat_map (λ n. byte_node space (pos sheet_bytes)) (initiators ls)) m)

  -- the numbers of a line's edge
  edge_printed : {s : SheetLine} → s ∈ ls → {v : ℤ} → v ∈ edge_of ls s → Printed v
  unfolding edge_of
  edge_printed i (Memᴰ.head e) =
      subst Printed (sym e) (small-printed _ (omega (arith, initiator-row ls (line-initiator ls i), initiators-few g)))
  edge_printed i (Memᴰ.tail (Memᴰ.head e)) =
      subst Printed (sym e) (small-printed _ (omega (arith, block-row ls (line-block ls i), initiators-few g, blocks-few g)))
  edge_printed {s} i (Memᴰ.tail (Memᴰ.tail (Memᴰ.head e))) =
      let b = good-line g i in
      subst Printed (sym e) (b.base, omega (arith, ints, b.base, b.size, b.end, sum s.base s.size))
  edge_printed i (Memᴰ.tail (Memᴰ.tail (Memᴰ.tail m))) = absurd (Memᴰ.not-nil m)

  -- the numbers of the edge table
  edges-printed : (v : ℤ) → v ∈ sheet_edges ls → Printed v
  unfolding sheet_edges
  edges-printed v m = let w = flat_map_out (edge_of ls) ls m in edge_printed w.1 w.2

  -- both tables
  pub sheet_printable : length ls ≤ max_edges → Printable (sheet_nodes ls) (sheet_edges ls)
  sheet_printable few =
      record { node_numbers = nodes-printed; edge_numbers = edges-printed; nodes = nodes-few g; edges = omega (arith, edges_length ls) }
