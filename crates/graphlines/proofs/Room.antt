-- The lines of printable tables fit into the room: a number has at most 15 digits and one byte behind it, and two bytes are the side.
use mathlib.Core.Path.{◌≡◌, refl, ap, subst}
use mathlib.Core.List.Memᴰ
use mathlib.Core.List.{List, [], ◌∷◌, ◌++◌, map}
use Prim.Native.Nat.{ℕ, zero, suc, ◌+◌, ◌*◌, ◌/◌, ◌≤◌, ◌<◌}
use native.Mathlib.Omega.{arith}
use lib.IntN.{ℤ, pos, negsuc}
use lib.ListN.{length, take, drop, length-append, length-drop, take-append-drop}
use lib.Seq.{length-take-le}
use Rattle.integers.proofs.Linear.{le_in}
use Rattle.lists.specs.Lists.{◌∈◌}
use Rattle.model.specs.Limits.{node_width, edge_width}
use Rattle.model.specs.Bytes.{bytes, blank, line_feed, shown, spaced}
use Rattle.model.specs.Report.{line_of}
use Rattle.model.specs.SheetCall.{graph_lines}
use Rattle.report.proofs.Digits.{digits-within}
use Rattle.graphlines.specs.Rows.{row_line, row_lines, node_front, print_room, Printed, Printable}
use Rattle.graphlines.proofs.Rows.{side_length, row_within, node_part, edge_part, graph_parts}

-- a table of numbers that are printed
abbrev AllPrinted : List ℤ → Type 0
AllPrinted vs = (v : ℤ) → v ∈ vs → Printed v

-- a number up to 2^48 has at most 15 digits
printed-short : (v : ℤ) → Printed v → length (shown v) ≤ 15
unfolding shown
printed-short (pos n) h = digits-within 20 n 14 (omega (arith, le_in h.1))
printed-short (negsuc n) h = absurd h.0.le

-- so a line takes at most 16 bytes a number
line-short : (vs : List ℤ) → 0 < length vs → AllPrinted vs → length (line_of vs) ≤ 16 * length vs
unfolding line_of spaced
line-short [] z h = absurd (omega arith)
line-short (v ∷ []) z h = omega (arith, printed-short v (h v (Memᴰ.head refl)), length-append (shown v) (line_feed ∷ []))
line-short (v ∷ w ∷ vs) z h =
    let later = spaced (map shown (w ∷ vs)) in
    omega (
      arith,
      printed-short v (h v (Memᴰ.head refl)),
      line-short (w ∷ vs) (omega arith) (λ u m. h u (Memᴰ.tail m)),
      length-append (shown v) (blank ∷ later),
      length-append (shown v ++ (blank ∷ later)) (line_feed ∷ []),
      length-append later (line_feed ∷ []),
    )

module _ {A : Type 0} where
  -- what a list has without its first elements, or without those behind, it has
  drop_in : (n : ℕ) (l : List A) {x : A} → x ∈ drop n l → x ∈ l
  drop_in n l {x} m = subst (λ k. x ∈ k) (take-append-drop n l) (Memᴰ.append_right (take n l) m)

  take_in : (n : ℕ) (l : List A) {x : A} → x ∈ take n l → x ∈ l
  take_in n l {x} m = subst (λ k. x ∈ k) (take-append-drop n l) (Memᴰ.append_left (drop n l) m)

module _ (width front : ℕ) (some : 0 < front) (few : front ≤ width) (t : List ℤ) (h : AllPrinted t) where
  -- the line of a row
  row-short : (i : ℕ) → width * i + front ≤ length t → length (row_line width front t i) ≤ 2 + 16 * front
  unfolding row_line
  row-short i inside =
      let row = take front (drop (width * i) t) in
      let size : length row ≡ front = length-take-le front (drop (width * i) t) (omega (arith, length-drop (width * i) t)) in
      omega (
        arith,
        size,
        side_length row (omega (arith, size)),
        line-short row (omega (arith, size)) (λ v m. h v (drop_in (width * i) t (take_in front (drop (width * i) t) m))),
      )

  -- the lines of n rows, each of at most `most` bytes
  rows_short : (most n : ℕ) → 2 + 16 * front ≤ most → width * n ≤ length t → length (row_lines width front t n) ≤ most * n
  unfolding row_lines
  rows_short most zero k inside = omega arith
  rows_short most (suc n) k inside =
      let whole = row_within width front few n (suc n) (omega arith) in
      omega (
        arith,
        length-append (row_lines width front t n) (row_line width front t n),
        rows_short most n k (omega (arith, whole)),
        row-short n (omega (arith, whole)),
      )

-- printable tables fit
pub printable_length : (ns es : List ℤ) → Printable ns es → length (graph_lines ns es) ≤ print_room
unfolding bytes
printable_length ns es p =
    omega (
      arith,
      ap length (graph_parts ns es),
      length-append (node_part ns) (edge_part es),
      rows_short node_width node_front (omega arith) (omega arith) ns p.node_numbers 66 (length ns / node_width) (omega arith) (omega arith),
      rows_short edge_width edge_width (omega arith) (omega arith) es p.edge_numbers 50 (length es / edge_width) (omega arith) (omega arith),
      p.nodes,
      p.edges,
    )
