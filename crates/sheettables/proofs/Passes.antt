-- The state of each pass between two turns, as a law over plain lists.
use mathlib.Core.Path.{◌≡◌, refl, sym, ap, ◌∙◌}
use mathlib.Core.Bool.{Bool, true, false}
use mathlib.Core.List.{List, [], ◌∷◌, flat_map}
use Prim.Native.Nat.{ℕ, zero, suc, ◌+◌, ◌*◌, ◌≤◌, ◌<◌}
use native.Mathlib.Numerals.{add-one}
use native.Mathlib.Omega.{arith}
use lib.Dec.{ltb}
use lib.IntN.{ℤ, pos}
use lib.ListN.{length, get_or, set, length-append, length-set}
use lib.Seq.{sets, get_or-set_same, get_or-set_other}
use Rattle.integers.proofs.Tests.{Test, passed, failed, ltb?}
use Rattle.model.specs.Limits.{node_width, edge_width, sheet_numbers, sheet_bytes}
use Rattle.model.specs.Sheet.{byte_node}
use Rattle.sheettables.specs.Parts.{index_at, marked, is_present, present, row_from, nodes_of, line_edge, edges_of}
use Rattle.sheettables.proofs.Stores.{sets_behind}
use Rattle.sheettables.proofs.Present.{present-more, present-same, present_grows, nodes-more, nodes-same, nodes_length}

-- ---- marks

-- one initiator more is marked
pub marked_more : (lines old : List ℤ) (k : ℕ) → marked lines (k + 1) old ≡ set (marked lines k old) (index_at lines (edge_width * k)) (pos sheet_bytes)
unfolding marked
marked_more lines old k = rw (add-one k)

-- ---- rows by number

module _ (ranges : List ℤ) (first : ℕ) where
  -- the numbers below v have their rows, and `row` is the next
  pub record Rowing (rows : List ℕ) (row v : ℕ) : Type 0 where
    pub whole : length rows ≡ sheet_numbers
    pub next : row ≡ row_from first ranges v
    pub each : (u : ℕ) → u < v → get_or rows u 0 ≡ row_from first ranges u

  -- before the first turn
  pub rowing_start : (rows : List ℕ) → length rows ≡ sheet_numbers → Rowing rows first 0
  unfolding present
  rowing_start rows w = record { whole = w; next = omega arith; each = λ u h. absurd (omega arith) }

  module _ {rows : List ℕ} {row v : ℕ} (s : Rowing rows row v) (h : v < sheet_numbers) where
    -- number v has its row
    rowing_each : (u : ℕ) → u < v + 1 → get_or (set rows v row) u 0 ≡ row_from first ranges u
    rowing_each u k = go (ltb u v) (ltb? u v)
      where
        go : (b : Bool) → Test (u < v) (v ≤ u) b → get_or (set rows v row) u 0 ≡ row_from first ranges u
        go true (passed l) = get_or-set_other rows v u row 0 (λ e. omega arith) ∙ s.each u l
        go false (failed l) =
            let same : u ≡ v = omega arith in
            rw (same) (get_or-set_same rows v row 0 (omega (arith, s.whole)) ∙ s.next)

    -- where it is on the sheet the next number has the next row
    pub rowing_more : is_present ranges v ≡ true → Rowing (set rows v row) (row + 1) (v + 1)
    rowing_more e =
        record {
          whole = length-set rows v row ∙ s.whole;
          next = omega (arith, s.next, ap length (present-more ranges v e), length-append (present ranges v) (v ∷ []));
          each = rowing_each;
        }

    -- and where it is not, the same
    pub rowing_same : is_present ranges v ≡ false → Rowing (set rows v row) row (v + 1)
    rowing_same e =
        record {
          whole = length-set rows v row ∙ s.whole;
          next = omega (arith, s.next, ap length (present-same ranges v e));
          each = rowing_each;
        }

-- ---- node rows

module _ (ranges : List ℤ) (kind : ℤ) (old : List ℤ) (at : ℕ) where
  -- the nodes of the numbers below v stand from place `at` on, and `next` is the place behind them
  pub record NodesPut (nodes : List ℤ) (next v : ℕ) : Type 0 where
    pub place : next ≡ at + length (nodes_of kind ranges v)
    pub stands : nodes ≡ sets old at (nodes_of kind ranges v)

  -- before the first turn
  pub nodes-start : NodesPut old at 0
  unfolding nodes_of present flat_map
  nodes-start = record { place = omega arith; stands = refl }

  module _ {nodes : List ℤ} {next v : ℕ} (s : NodesPut nodes next v) (h : v < sheet_numbers) where
    -- number v is on the sheet: its node is put behind the others
    pub nodes_put : is_present ranges v ≡ true → NodesPut (sets nodes next (byte_node kind (get_or ranges v (pos 0)))) (next + node_width) (v + 1)
    unfolding byte_node
    nodes_put e =
        let more = nodes-more ranges kind v e in
        let row = byte_node kind (get_or ranges v (pos 0)) in
        record {
          place = omega (arith, s.place, ap length more, length-append (nodes_of kind ranges v) row);
          stands = sets_behind old at (nodes_of kind ranges v) row s.stands s.place refl ∙ ap (sets old at) (sym more);
        }

    -- the node has room before the end of the rows of all numbers
    pub nodes-room : is_present ranges v ≡ true → next + node_width ≤ at + length (nodes_of kind ranges sheet_numbers)
    nodes-room e =
        omega (
          arith,
          s.place,
          nodes_length ranges kind v,
          nodes_length ranges kind sheet_numbers,
          ap length (present-more ranges v e),
          length-append (present ranges v) (v ∷ []),
          present_grows ranges (v + 1) sheet_numbers (omega arith),
        )

    -- it is not: nothing is put
    pub nodes-over : is_present ranges v ≡ false → NodesPut nodes next (v + 1)
    nodes-over e =
        let same = nodes-same ranges kind v e in
        record {
          place = s.place ∙ ap (λ l. at + length l) (sym same);
          stands = s.stands ∙ ap (sets old at) (sym same);
        }

-- ---- edge rows

module _ (roots leaves : List ℕ) (lines : List ℤ) where
  -- three numbers a line
  pub edges_length : (k : ℕ) → length (edges_of roots leaves lines k) ≡ edge_width * k
  unfolding edges_of
  edges_length zero = refl
  edges_length (suc k) = omega (arith, edges_length k, length-append (edges_of roots leaves lines k) (line_edge roots leaves lines k))

  -- one edge more stands behind the others: it leads from the row of the line's initiator to that of its block, with its base as offset
  pub edges_put : (old : List ℤ) (k : ℕ) {edges after : List ℤ} {initiator block : ℕ} {base : ℤ} → edges ≡ sets old 0 (edges_of roots leaves lines k)
      → initiator ≡ index_at lines (edge_width * k) → block ≡ index_at lines (edge_width * k + 1) → base ≡ get_or lines (edge_width * k + 2) (pos 0)
      → after ≡ sets edges (edge_width * k) (pos (get_or roots initiator 0) ∷ pos (get_or leaves block 0) ∷ base ∷ [])
      → after ≡ sets old 0 (edges_of roots leaves lines (k + 1))
  unfolding edges_of
  edges_put old k {edges} {initiator = i} {block = j} {base = z} put root leaf offset after =
      let row : pos (get_or roots i 0) ∷ pos (get_or leaves j 0) ∷ z ∷ [] ≡ line_edge roots leaves lines k = cc (root, leaf, offset) in
      let place : edge_width * k ≡ 0 + length (edges_of roots leaves lines k) = omega (arith, edges_length k) in
      sets_behind old 0 (edges_of roots leaves lines k) (line_edge roots leaves lines k) put place (after ∙ ap (sets edges (edge_width * k)) row)
      ∙ ap (λ n. sets old 0 (edges_of roots leaves lines n)) (sym (add-one k))
