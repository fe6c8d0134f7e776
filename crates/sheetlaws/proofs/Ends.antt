-- Roots and leaves of the graph of a sheet: the roots are the rows of its initiators, the leaves those of its blocks.
use mathlib.Core.Path.{◌≡◌, sym, ap, ◌∙◌}
use mathlib.Core.Bool.{Bool, true, false}
use mathlib.Core.Logic.{◌↔◌, ◌⊎◌, inl, inr, ⊎_elim}
use mathlib.Core.List.{List}
use Prim.Native.Nat.{◌+◌, ◌-◌, ◌≤◌, ◌<◌}
use native.Mathlib.Omega.{arith}
use lib.Dec.{ltb}
use lib.IntN.{ℤ, pos, negsuc}
use lib.ListN.{length, get_or}
use Rattle.integers.proofs.Linear.{ints}
use Rattle.integers.proofs.Tests.{Test, passed, failed, ltb?}
use Rattle.lists.specs.Lists.{◌∈◌}
use Rattle.lists.proofs.Places.{get_d_in}
use Rattle.model.specs.Graph.{NodeRow, node, space, block}
use Rattle.model.specs.Paths.{Root, Leaf}
use Rattle.model.specs.Sheet.{SheetLine, initiators, blocks, initiator_row, block_row, sheet_graph}
use Rattle.sheetlaws.proofs.Places.{place_of, place-own}
use Rattle.sheetlaws.proofs.Lines.{initiators-ordered, blocks-ordered}
use Rattle.sheetlaws.proofs.Graph.{graph-size, initiator-row, block-row, initiator-node, block-node}
use Rattle.sheetlaws.proofs.Ways.{edge_to}

-- v is the row of an initiator on the sheet
abbrev pub InitiatorAt : List SheetLine → ℤ → Type 0
InitiatorAt ls v = (n : ℤ) × (n ∈ initiators ls) × (v ≡ pos (initiator_row ls n))

-- v is the row of a block on the sheet
abbrev pub BlockAt : List SheetLine → ℤ → Type 0
BlockAt ls v = (m : ℤ) × (m ∈ blocks ls) × (v ≡ pos (block_row ls m))

module _ (ls : List SheetLine) where
  -- two initiators with one row are one
  pub initiator-own : {n k : ℤ} → n ∈ initiators ls → k ∈ initiators ls → initiator_row ls n ≡ initiator_row ls k → n ≡ k
  unfolding initiator_row
  initiator-own i j e = place-own (initiators ls) i j e

  -- two blocks with one row are one
  pub block-own : {m k : ℤ} → m ∈ blocks ls → k ∈ blocks ls → block_row ls m ≡ block_row ls k → m ≡ k
  unfolding block_row
  block-own i j e = place-own (blocks ls) i j (omega arith)

  -- a node row is the row of an initiator or of a block
  row_cases : {v : ℤ} → NodeRow (sheet_graph ls) v → InitiatorAt ls v ⊎ BlockAt ls v
  unfolding initiator_row block_row
  row_cases {v = negsuc k} r = absurd (omega (arith, ints, r.low))
  row_cases {v = pos k} r = go (ltb k (length (initiators ls))) (ltb? k (length (initiators ls)))
    where
      high : k < length (initiators ls) + length (blocks ls)
      high = omega (arith, ints, r.high, graph-size ls)

      go : (t : Bool) → Test (k < length (initiators ls)) (length (initiators ls) ≤ k) t → InitiatorAt ls (pos k) ⊎ BlockAt ls (pos k)
      go true (passed h) =
          inl (get_or (initiators ls) k (pos 0), get_d_in (initiators ls) k (pos 0) h, ap pos (sym (place_of (pos 0) (initiators-ordered ls) k h)))
      go false (failed h) =
          let j = k - length (initiators ls) in
          let within : j < length (blocks ls) = omega (arith, high) in
          inr (
            get_or (blocks ls) j (pos 0),
            get_d_in (blocks ls) j (pos 0) within,
            ap pos (omega (arith, place_of (pos 0) (blocks-ordered ls) j within)),
          )

  -- the node at an initiator's row is a space
  initiator-kind : {v : ℤ} → InitiatorAt ls v → (node (sheet_graph ls) v).kind ≡ space
  initiator-kind w = ap (λ u. (node (sheet_graph ls) u).kind) w.2 ∙ ap (λ n. n.kind) (initiator-node ls w.1)

  -- the node at a block's row is a block
  block-kind : {v : ℤ} → BlockAt ls v → (node (sheet_graph ls) v).kind ≡ block
  block-kind w = ap (λ u. (node (sheet_graph ls) u).kind) w.2 ∙ ap (λ n. n.kind) (block-node ls w.1)

  -- the roots are the rows of the initiators
  pub sheet_roots : (v : ℤ) → Root (sheet_graph ls) v ↔ InitiatorAt ls v
  sheet_roots v = (
    λ r. ⊎_elim (λ w. w)
        (λ w. let b = block-kind w in
        absurd (⊎_elim (λ q. let z : pos 0 ≡ pos 2 = cc in omega (arith, ints)) (λ q. let z : pos 1 ≡ pos 2 = cc in omega (arith, ints)) r.kind))
        (row_cases r.row),
    λ w. let row = initiator-row ls w.1 in record {
      row = record { low = omega (arith, ints, w.2); high = omega (arith, ints, w.2, graph-size ls) };
      kind = inl (initiator-kind w);
      unentered = λ e m q. let to = edge_to ls m in omega (arith, ints, w.2, to.1, to.3);
    },
  )

  -- the leaves are the rows of the blocks
  pub sheet_leaves : (v : ℤ) → Leaf (sheet_graph ls) v ↔ BlockAt ls v
  sheet_leaves v = (
    λ l. ⊎_elim (λ w. let s = initiator-kind w in let q = l.kind in let z : pos 0 ≡ pos 2 = cc in absurd (omega (arith, ints))) (λ w. w)
        (row_cases l.row),
    λ w. let row = block-row ls w.1 in record {
      row = record { low = omega (arith, ints, w.2); high = omega (arith, ints, w.2, graph-size ls) };
      kind = block-kind w;
    },
  )
