-- Ways in the graph of a sheet: every edge leads from an initiator's row to a block's row, so no edge follows another, and a way has at most one.
use mathlib.Core.Path.{◌≡◌, refl, sym, ap, ◌∙◌}
use mathlib.Core.Logic.{◌≢◌}
use mathlib.Core.List.{List, []}
use Prim.Native.Nat.{ℕ, ◌+◌, ◌≤◌, ◌<◌}
use native.Mathlib.Omega.{arith}
use lib.IntN.{ℤ, pos}
use lib.ListN.{length}
use Rattle.integers.proofs.Linear.{ints}
use Rattle.lists.specs.Lists.{◌∈◌}
use Rattle.model.specs.Rows.{Edge}
use Rattle.model.specs.Paths.{Way, stay, over, Cycle, LongChain}
use Rattle.model.specs.Sheet.{SheetLine, initiators, blocks, initiator_row, block_row, sheet_graph}
use Rattle.sheetlaws.proofs.Lines.{line-initiator, line-block}
use Rattle.sheetlaws.proofs.Graph.{edge_out, initiator-row, block-row}

module _ (ls : List SheetLine) where
  -- an edge starts at an initiator's row
  pub edge_from : {e : Edge} → e ∈ (sheet_graph ls).edges → (k : ℕ) × (k < length (initiators ls)) × (e.from ≡ pos k)
  edge_from m =
      let w = edge_out ls m in
      (initiator_row ls w.1.initiator, initiator-row ls (line-initiator ls w.2), ap (λ e. e.from) w.3)

  -- an edge ends at a block's row
  pub edge_to : {e : Edge} → e ∈ (sheet_graph ls).edges
      → (k : ℕ) × (length (initiators ls) ≤ k) × (k < length (initiators ls) + length (blocks ls)) × (e.to ≡ pos k)
  edge_to m =
      let w = edge_out ls m in
      let row = block-row ls (line-block ls w.2) in
      (block_row ls w.1.block, row.0, row.1, ap (λ e. e.to) w.3)

  -- no edge starts where one ends
  pub edges-apart : {e f : Edge} → e ∈ (sheet_graph ls).edges → f ∈ (sheet_graph ls).edges → e.to ≢ f.from
  edges-apart m n q =
      let to = edge_to m in
      let from = edge_from n in
      omega (arith, ints, to.1, to.3, from.1, from.2)

  -- a way has at most one edge
  pub way-single : {v w : ℤ} {p : List Edge} → Way (sheet_graph ls) v p w → length p ≤ 1
  way-single stay = omega arith
  way-single (over e m q stay) = omega arith
  way-single (over e m q (over f n r y)) = absurd (edges-apart m n (sym r))

  -- there is no cycle
  pub cycle_none : Cycle (sheet_graph ls) → ⊥
  cycle_none c = go refl c.some c.closed
    where
      go : {v w : ℤ} {p : List Edge} → v ≡ w → p ≢ [] → Way (sheet_graph ls) v p w → ⊥
      go back some stay = some refl
      go back some (over e m q stay) = edges-apart m m (sym (q ∙ back))
      go back some (over e m q (over f n r y)) = edges-apart m n (sym r)

  -- there is no chain of more than 64 edges
  pub chain-none : LongChain (sheet_graph ls) → ⊥
  chain-none c = omega (arith, c.long, way-single c.chain)
