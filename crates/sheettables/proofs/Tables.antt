-- What the parts put is the node table and the edge table of the sheet.
use mathlib.Core.Path.{◌≡◌, refl, sym, ap, ◌∙◌}
use mathlib.Core.List.{List, [], ◌∷◌, ◌++◌, flat_map}
use Prim.Native.Nat.{ℕ, zero, suc, ◌+◌, ◌*◌, ◌≤◌}
use native.Mathlib.Omega.{arith}
use lib.IntN.{ℤ, pos, nat_abs}
use lib.ListN.{length, get_or, take, length-append}
use lib.Seq.{take-suc, take_all}
use Rattle.lists.specs.Lists.{◌∈◌}
use Rattle.lists.proofs.Membership.{map_in}
use Rattle.model.specs.Limits.{node_width, edge_width, sheet_numbers, sheet_bytes}
use Rattle.model.specs.Graph.{space, block}
use Rattle.model.specs.Sheet.{SheetLine, initiators, blocks, initiator_row, block_row, size_of, sheet_nodes, sheet_edges, edge_of}
use Rattle.sheettables.specs.Parts.{line_count, present, Rowed, nodes_of, RowsWithin, edges_of}
use Rattle.sheettables.specs.Made.{Tabled}
use Rattle.sheettables.proofs.Present.{flat_map_snoc, present_length, nodes_length}
use Rattle.sheettables.proofs.Numbers.{number-below}
use Rattle.sheettables.proofs.Lines.{good-initiator, good-block, no_line, lines_length, lines-count, line_kept}
use Rattle.sheettables.proofs.Members.{ranged_place, ranged_length, ranged_nodes}
use Rattle.sheettables.proofs.Ranges.{space_on, spaces_ranged, sizes_ranged}

module _ {ls : List SheetLine} {lines spaces sizes : List ℤ} (t : Tabled ls lines spaces sizes) where
  -- the node table is what is put for the initiators and, behind it, for the blocks
  pub nodes_tabled : sheet_nodes ls ≡ nodes_of space spaces sheet_numbers ++ nodes_of block sizes sheet_numbers
  unfolding sheet_nodes initiators blocks
  nodes_tabled =
      let roots = ranged_nodes (spaces_ranged t.good t.spaces) space (λ n. pos sheet_bytes) (λ v h m. t.spaces.space v h ∙ space_on ls m) in
      let leaves = ranged_nodes (sizes_ranged t.good t.sizes) block (size_of ls) (λ v h m. t.sizes.size v h) in
      cc (roots, leaves)

  -- five numbers for each
  pub nodes_tabled_length : length (sheet_nodes ls) ≡ node_width * (length (present spaces sheet_numbers) + length (present sizes sheet_numbers))
  nodes_tabled_length =
      omega (
        arith,
        ap length nodes_tabled,
        length-append (nodes_of space spaces sheet_numbers) (nodes_of block sizes sheet_numbers),
        nodes_length spaces space sheet_numbers,
        nodes_length sizes block sheet_numbers,
      )

  module _ {roots leaves : List ℕ} {first next : ℕ} (r : Rowed spaces 0 roots first) (l : Rowed sizes first leaves next) where
    -- the row of the initiator of a line
    root-row : {s : SheetLine} → s ∈ ls → get_or roots (nat_abs s.initiator) 0 ≡ initiator_row ls s.initiator
    unfolding initiator_row initiators
    root-row {s} m =
        let place = ranged_place (spaces_ranged t.good t.spaces) (map_in (λ u. u.initiator) m) in
        omega (arith, r.each (nat_abs s.initiator) (number-below (good-initiator t.good m)), place)

    -- the row of its block
    leaf-row : {s : SheetLine} → s ∈ ls → get_or leaves (nat_abs s.block) 0 ≡ block_row ls s.block
    unfolding block_row initiators blocks
    leaf-row {s} m =
        let place = ranged_place (sizes_ranged t.good t.sizes) (map_in (λ u. u.block) m) in
        omega (
          arith,
          l.each (nat_abs s.block) (number-below (good-block t.good m)),
          place,
          r.behind,
          ranged_length (spaces_ranged t.good t.spaces),
        )

    -- the edges of the first k lines
    edges-first : (k : ℕ) → k ≤ length ls → edges_of roots leaves lines k ≡ flat_map (edge_of ls) (take k ls)
    unfolding edges_of flat_map edge_of
    edges-first zero h = refl
    edges-first (suc k) h =
        let s = get_or ls k no_line in
        let w = line_kept t.good t.lines k (omega arith) in
        let root = ap (λ z. get_or roots (nat_abs z) 0) w.0.initiator ∙ root-row w.1 in
        let leaf = ap (λ z. get_or leaves (nat_abs z) 0) w.0.block ∙ leaf-row w.1 in
        rw (root, leaf, w.0.base, take-suc ls k no_line (omega arith), flat_map_snoc (edge_of ls) (take k ls) s) (ap (λ l. l ++ edge_of ls s) (edges-first k (omega arith)))

    -- the edge table is what is put for all lines
    pub edges_tabled : sheet_edges ls ≡ edges_of roots leaves lines (line_count lines)
    unfolding sheet_edges
    edges_tabled =
        sym
        (ap (edges_of roots leaves lines) (lines-count t.good t.lines)
        ∙ edges-first (length ls) (omega arith)
        ∙ ap (flat_map (edge_of ls)) (take_all (length ls) ls (omega arith)))

  -- three numbers a line
  pub edges_tabled_length : length (sheet_edges ls) ≡ length lines
  unfolding sheet_edges edge_of flat_map
  edges_tabled_length = each ls ∙ sym (ap length t.lines ∙ lines_length ls)
    where
      each : (us : List SheetLine) → length (flat_map (edge_of ls) us) ≡ edge_width * length us
      each [] = refl
      each (u ∷ us) = omega (arith, each us)

-- no row lies above the last
pub rows-within : {ranges : List ℤ} {rows : List ℕ} {first next : ℕ} → first ≤ sheet_numbers → length rows ≡ sheet_numbers → Rowed ranges first rows next → RowsWithin rows
rows-within {ranges} f w r = record { whole = w; within = λ v h. omega (arith, r.each v h, present_length ranges v) }
