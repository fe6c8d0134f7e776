-- Walks in the graph of a sheet: a walk from an initiator's row to a block's row goes over one edge, that of a line, and joins exactly the bits that the
-- line gives. So the graph of a good sheet is as its lines give it.
use mathlib.Core.Path.{◌≡◌, refl, sym, ap, subst, ◌∙◌}
use mathlib.Core.Logic.{◌≢◌, ◌↔◌}
use mathlib.Core.List.{List}
use Prim.Native.Nat.{ℕ}
use native.Mathlib.Omega.{arith}
use lib.IntN.{ℤ, pos, ◌-ℤ◌, ◌*ℤ◌}
use Rattle.integers.proofs.Linear.{ints, diff}
use Rattle.lists.specs.Lists.{◌∈◌}
use Rattle.model.specs.declared.WalkKind.{WalkKind}
use Rattle.model.specs.Limits.{sheet_bytes, byte_bits}
use Rattle.model.specs.Rows.{Edge}
use Rattle.model.specs.Graph.{Graph, node, space, block, first_bit, bit_offset}
use Rattle.model.specs.Walk.{StandsOn, Walk, stand, step, Reached}
use Rattle.model.specs.Sheet.{SheetLine, GoodSheet, initiators, blocks, initiator_row, block_row, sheet_graph, Given, AsGiven}
use Rattle.sheetlaws.proofs.Lines.{line-initiator, line-block, good-line, good-size}
use Rattle.sheetlaws.proofs.Graph.{line_edge, edge_out, edge_in, initiator-row, block-row, initiator-node, block-node}
use Rattle.sheetlaws.proofs.Ways.{edges-apart}
use Rattle.sheetlaws.proofs.Ends.{initiator-own, block-own, sheet_roots, sheet_leaves}
use Rattle.sheetlaws.proofs.Bytes.{BitWithin, byte_node-stands, LineJoins, given_joins, joins_given, joins-root}

-- ---- over one edge

-- a walk over one edge
record Crossing (kind : WalkKind) (g : Graph) (v a w b : ℤ) : Type 0 where
  edge : Edge
  on_table : edge ∈ g.edges
  from : edge.from ≡ v
  to : edge.to ≡ w
  moved : b ≡ a -ℤ bit_offset g edge
  end : StandsOn kind (node g w) b

-- a walk from one row to another goes over one edge
walk-crossing : {kind : WalkKind} (ls : List SheetLine) {v a w b : ℤ} → v ≢ w → Walk kind (sheet_graph ls) v a w b → Crossing kind (sheet_graph ls) v a w b
walk-crossing ls apart (stand h) = absurd (apart refl)
walk-crossing {kind} ls {v} {a} apart (step e m q h rest) = last e m q rest
  where
    last : (e : Edge) → e ∈ (sheet_graph ls).edges → e.from ≡ v → {w b : ℤ}
        → Walk kind (sheet_graph ls) e.to (a -ℤ bit_offset (sheet_graph ls) e) w b → Crossing kind (sheet_graph ls) v a w b
    last e m q (stand k) = record { edge = e; on_table = m; from = q; to = refl; moved = refl; end = k }
    last e m q (step f n r k x) = absurd (edges-apart ls m n (sym r))

-- ---- over the edge of a line

-- the rows of an initiator and of a block, as numbers of node rows
abbrev pub root_of : List SheetLine → ℤ → ℤ
root_of ls n = pos (initiator_row ls n)

abbrev pub leaf_of : List SheetLine → ℤ → ℤ
leaf_of ls m = pos (block_row ls m)

-- an initiator and a block have two rows
rows_apart : (ls : List SheetLine) {n m : ℤ} → n ∈ initiators ls → m ∈ blocks ls → root_of ls n ≢ leaf_of ls m
rows_apart ls i j q = omega (arith, ints, initiator-row ls i, block-row ls j)

-- the first bit of a block's node is 0
leaf_first : (ls : List SheetLine) {m : ℤ} → m ∈ blocks ls → first_bit (node (sheet_graph ls) (leaf_of ls m)) ≡ pos 0
unfolding first_bit
leaf_first ls i = ap first_bit (block-node ls i)

module _ (kind : WalkKind) {ls : List SheetLine} (g : GoodSheet ls) {s : SheetLine} (m : s ∈ ls) where
  -- the bit offset of the line's edge is the line's base in bits
  line-offset : (i : ℕ) → bit_offset (sheet_graph ls) (line_edge ls i s) ≡ s.base *ℤ pos byte_bits
  unfolding bit_offset
  line-offset i = ap (λ n. s.base *ℤ n.unit) (block-node ls (line-block ls m))

  -- the bits with which a walk may stand on the node of the line's initiator
  line-root-stands : (a : ℤ) → StandsOn kind (node (sheet_graph ls) (root_of ls s.initiator)) a ↔ BitWithin (pos sheet_bytes) a
  line-root-stands a =
      rw (initiator-node ls (line-initiator ls m)) (byte_node-stands kind space (pos sheet_bytes) (initiator_row ls s.initiator) a)

  -- the bits with which a walk may stand on the node of the line's block
  line-leaf-stands : (a : ℤ) → StandsOn kind (node (sheet_graph ls) (leaf_of ls s.block)) a ↔ BitWithin s.size a
  line-leaf-stands a = rw (block-node ls (line-block ls m), good-size g m) (byte_node-stands kind block s.size (block_row ls s.block) a)

  -- what the line joins is reached over its edge
  line-reached : {x y : ℤ} → LineJoins s x y → Reached kind (sheet_graph ls) (root_of ls s.initiator) (leaf_of ls s.block) x y
  line-reached {x} {y} j =
      let e = edge_in ls m in
      let leaf = leaf_of ls s.block in
      let start = (line-root-stands x).1 (joins-root (good-line g m) j) in
      let end = (line-leaf-stands y).1 j.inside in
      let moved : y ≡ x -ℤ bit_offset (sheet_graph ls) (line_edge ls e.0 s) = j.moved ∙ ap (λ z. x -ℤ z) (sym (line-offset e.0)) in
      record {
        arrival = y;
        walk = step (line_edge ls e.0 s) e.1 refl start (subst (λ z. Walk kind (sheet_graph ls) leaf z leaf y) moved (stand end));
        leaf_bit = omega (arith, ints, leaf_first ls (line-block ls m), diff y (first_bit (node (sheet_graph ls) leaf)));
      }

  -- what is reached over its edge the line joins
  reached-line : {x y : ℤ} (i : ℕ) (b : ℤ) → b ≡ x -ℤ bit_offset (sheet_graph ls) (line_edge ls i s)
      → StandsOn kind (node (sheet_graph ls) (leaf_of ls s.block)) b → y ≡ b -ℤ first_bit (node (sheet_graph ls) (leaf_of ls s.block))
      → LineJoins s x y
  reached-line {x} {y} i b moved end leaf =
      let same : y ≡ b = omega (arith, ints, leaf_first ls (line-block ls m), diff b (first_bit (node (sheet_graph ls) (leaf_of ls s.block)))) in
      record { inside = rw same ((line-leaf-stands b).0 end); moved = same ∙ moved ∙ ap (λ z. x -ℤ z) (line-offset i) }

-- ---- the whole graph

module _ (kind : WalkKind) {ls : List SheetLine} (g : GoodSheet ls) (n m x y : ℤ) where
  -- what a root bit of an initiator reaches at a block some line gives. The walk goes over one edge, which is that of a line; its ends are the rows of the
  -- line's initiator and block, and a row is that of one number only
  pub reached_given : n ∈ initiators ls → m ∈ blocks ls → Reached kind (sheet_graph ls) (root_of ls n) (leaf_of ls m) x y → Given ls n m x y
  reached_given i j r =
      let c = walk-crossing ls (rows_apart ls i j) r.walk in
      let w = edge_out ls c.on_table in
      let s = w.1 in
      let from : root_of ls s.initiator ≡ root_of ls n = sym (ap (λ e. e.from) w.3) ∙ c.from in
      let to : leaf_of ls s.block ≡ leaf_of ls m = sym (ap (λ e. e.to) w.3) ∙ c.to in
      let moved = c.moved ∙ ap (λ e. x -ℤ bit_offset (sheet_graph ls) e) w.3 in
      let joins = reached-line kind g w.2 {x = x} {y = y} w.0 r.arrival moved (rw to c.end) (rw to r.leaf_bit) in
      let initiator = initiator-own ls (line-initiator ls w.2) i (omega (arith, ints)) in
      let block = block-own ls (line-block ls w.2) j (omega (arith, ints)) in
      joins_given w.2 initiator block joins

  -- what some line gives is reached, over the line's edge
  pub given_reached : Given ls n m x y → Reached kind (sheet_graph ls) (root_of ls n) (leaf_of ls m) x y
  given_reached h = rw (← h.initiator, ← h.block) (line-reached kind g h.on_sheet (given_joins h))

-- the graph of a good sheet is as its lines give it
pub sheet_as_given : (ls : List SheetLine) → GoodSheet ls → AsGiven ls (sheet_graph ls)
sheet_as_given ls g = record {
  roots = sheet_roots ls;
  leaves = sheet_leaves ls;
  own_root = λ n k i j e. initiator-own ls i j e;
  own_leaf = λ m k i j e. block-own ls i j e;
  walks = λ kind n m i j x y. (reached_given kind g n m x y i j, given_reached kind g n m x y);
}
