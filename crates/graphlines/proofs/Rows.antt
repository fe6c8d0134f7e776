-- The lines of a table, row by row: one more row at the end, the first row apart, and that they are the lines of the node rows and of the edge rows.
use mathlib.Core.Path.{◌≡◌, refl, sym, ap, ◌∙◌}
use mathlib.Core.List.{List, [], ◌∷◌, ◌++◌, append-nil, append_assoc, flat_map}
use Prim.Native.Nat.{ℕ, zero, suc, ◌+◌, ◌-◌, ◌*◌, ◌/◌, ◌≤◌, ◌<◌}
use native.Mathlib.Nat.{mul-zero, mul-le-mul_left}
use native.Mathlib.Numerals.{add-one}
use native.Mathlib.Omega.{arith}
use lib.IntN.{ℤ, pos}
use lib.ListN.{length, take, drop, length-append, length-drop}
use lib.Seq.{length-take-le, drop-drop}
use Rattle.model.specs.Limits.{node_width, edge_width}
use Rattle.model.specs.Bytes.{Bytes, bytes, digits, shown, spaced}
use Rattle.model.specs.Rows.{nodes_from, edges_from}
use Rattle.model.specs.Report.{line_of}
use Rattle.model.specs.SheetCall.{node_line, edge_line, graph_lines}
use Rattle.graphlines.specs.Rows.{row_line, row_lines, node_front}

-- the line of a row on side 0
pub side_line : (vs : List ℤ) → 0 < length vs → line_of (pos 0 ∷ vs) ≡ bytes "0 " ++ line_of vs
unfolding line_of spaced shown digits bytes
side_line [] h = absurd (omega arith)
side_line (v ∷ vs) h = refl

-- and how long it is
pub side_length : (vs : List ℤ) → 0 < length vs → length (line_of (pos 0 ∷ vs)) ≡ 2 + length (line_of vs)
unfolding bytes
side_length vs h = ap length (side_line vs h) ∙ omega arith

-- ---- the first rows

module _ (width front : ℕ) where
  -- no rows have no lines
  pub rows_none : (t : List ℤ) → row_lines width front t 0 ≡ []
  unfolding row_lines
  rows_none t = refl

  -- one row more is one line more
  pub rows_more : (t : List ℤ) (i : ℕ) → row_lines width front t (i + 1) ≡ row_lines width front t i ++ row_line width front t i
  unfolding row_lines
  rows_more t i = rw (add-one i, row_lines) refl

  -- and as much longer
  pub rows-more_length : (t : List ℤ) (i : ℕ) → length (row_lines width front t (i + 1)) ≡ length (row_lines width front t i) + length (row_line width front t i)
  rows-more_length t i = ap length (rows_more t i) ∙ length-append (row_lines width front t i) (row_line width front t i)

  -- the lines of the first rows are no longer than those of more
  rows_grow : (t : List ℤ) (d i n : ℕ) → i + d ≡ n → length (row_lines width front t i) ≤ length (row_lines width front t n)
  rows_grow t zero i n e = let same : i ≡ n = omega arith in rw same (omega arith)
  rows_grow t (suc d) i n e = omega (arith, rows-more_length t i, rows_grow t d (i + 1) n (omega arith))

  -- so they have room wherever all have
  pub rows-within : (t : List ℤ) (i n : ℕ) → i ≤ n → length (row_lines width front t i) ≤ length (row_lines width front t n)
  rows-within t i n h = rows_grow t (n - i) i n (omega arith)

  -- what is printed of row i of n rows ends within them
  pub row_within : front ≤ width → (i n : ℕ) → i < n → width * i + front ≤ width * n
  row_within h i n k = omega (arith, mul-le-mul_left {m = suc i} {n = n} width k)

  -- what is lent of a row has so many numbers
  pub row_length : (t : List ℤ) (i : ℕ) → width * i + front ≤ length t → length (take (width * i + front - width * i) (drop (width * i) t)) ≡ front
  row_length t i h =
      let e : width * i + front - width * i ≡ front = omega arith in
      rw e (length-take-le front (drop (width * i) t) (omega (arith, length-drop (width * i) t)))

  -- its line
  pub row-lent : (t : List ℤ) (i : ℕ) → line_of (pos 0 ∷ take (width * i + front - width * i) (drop (width * i) t)) ≡ row_line width front t i
  unfolding row_line
  row-lent t i = let e : width * i + front - width * i ≡ front = omega arith in rw e refl

  -- ---- the first row, and the rows behind it

  -- the line of the first row
  row_first : (t : List ℤ) → row_line width front t 0 ≡ line_of (pos 0 ∷ take front t)
  unfolding row_line
  row_first t = rw (mul-zero width) refl

  -- a row behind it is a row of the rest
  row-behind : (t : List ℤ) (i : ℕ) → row_line width front t (suc i) ≡ row_line width front (drop width t) i
  unfolding row_line
  row-behind t i =
      let e : width * suc i ≡ width + width * i = omega arith in
      rw (e, ← drop-drop (width * i) width t) refl

  -- the line of the first row, and those of the rest
  rows-first : (t : List ℤ) (n : ℕ) → row_lines width front t (suc n) ≡ line_of (pos 0 ∷ take front t) ++ row_lines width front (drop width t) n
  unfolding row_lines
  rows-first t zero = row_first t ∙ sym (append-nil (line_of (pos 0 ∷ take front t)))
  rows-first t (suc n) =
      ap (λ (l : Bytes). l ++ row_line width front t (suc n)) (rows-first t n)
      ∙ ap (λ (l : Bytes). (line_of (pos 0 ∷ take front t) ++ row_lines width front (drop width t) n) ++ l) (row-behind t n)
      ∙ append_assoc (line_of (pos 0 ∷ take front t)) (row_lines width front (drop width t) n) (row_line width front (drop width t) n)

-- ---- node rows and edge rows

-- the lines of the node rows, whatever the number of the first
nodes-from : (i : ℕ) (ns : List ℤ) → flat_map node_line (nodes_from i ns) ≡ row_lines node_width node_front ns (length ns / node_width)
unfolding nodes_from node_line flat_map
nodes-from i [] = sym (rows_none node_width node_front [])
nodes-from i (k ∷ []) = sym (rows_none node_width node_front (k ∷ []))
nodes-from i (k ∷ b ∷ []) = sym (rows_none node_width node_front (k ∷ b ∷ []))
nodes-from i (k ∷ b ∷ r ∷ []) = sym (rows_none node_width node_front (k ∷ b ∷ r ∷ []))
nodes-from i (k ∷ b ∷ r ∷ u ∷ []) = sym (rows_none node_width node_front (k ∷ b ∷ r ∷ u ∷ []))
nodes-from i (k ∷ b ∷ r ∷ u ∷ a ∷ rest) =
    let more : length (k ∷ b ∷ r ∷ u ∷ a ∷ rest) / node_width ≡ suc (length rest / node_width) = omega arith in
    rw (nodes-from (suc i) rest, more) (sym (rows-first node_width node_front (k ∷ b ∷ r ∷ u ∷ a ∷ rest) (length rest / node_width)))

-- the lines of the edge rows
edges-from : (i : ℕ) (es : List ℤ) → flat_map edge_line (edges_from i es) ≡ row_lines edge_width edge_width es (length es / edge_width)
unfolding edges_from edge_line flat_map
edges-from i [] = sym (rows_none edge_width edge_width [])
edges-from i (f ∷ []) = sym (rows_none edge_width edge_width (f ∷ []))
edges-from i (f ∷ t ∷ []) = sym (rows_none edge_width edge_width (f ∷ t ∷ []))
edges-from i (f ∷ t ∷ o ∷ rest) =
    let more : length (f ∷ t ∷ o ∷ rest) / edge_width ≡ suc (length rest / edge_width) = omega arith in
    rw (edges-from (suc i) rest, more) (sym (rows-first edge_width edge_width (f ∷ t ∷ o ∷ rest) (length rest / edge_width)))

-- the two tables below their names
abbrev pub node_part : List ℤ → Bytes
node_part ns = bytes "side kind base range unit\n" ++ row_lines node_width node_front ns (length ns / node_width)

abbrev pub edge_part : List ℤ → Bytes
edge_part es = bytes "\nside from to offset\n" ++ row_lines edge_width edge_width es (length es / edge_width)

-- what is printed are these two, one behind the other
pub graph_parts : (ns es : List ℤ) → graph_lines ns es ≡ node_part ns ++ edge_part es
unfolding graph_lines
graph_parts ns es = rw (nodes-from 0 ns, edges-from 0 es) (simp append_assoc)
