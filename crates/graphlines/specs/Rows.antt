-- The lines of a table's rows on side 0, row by row, and how large tables may be so that their lines fit into a fixed room. Assumes nothing.
use Rattle.std.specs.Prelude.{List, [], ◌∷◌, ◌++◌, ℕ, zero, suc, ◌*◌, ◌^◌, ◌≤◌, ℤ, pos, ◌≤ℤ◌, length, take, drop}
use Rattle.lists.specs.Lists.{◌∈◌}
use Rattle.model.specs.Limits.{node_width, edge_width, max_nodes, max_edges, max_units}
use Rattle.model.specs.Bytes.{Bytes}
use Rattle.model.specs.Report.{line_of}

-- the line of row i of a table with so many numbers a row, on side 0: the first `front` of them
unfoldable pub row_line : (width front : ℕ) → List ℤ → ℕ → Bytes
row_line width front t i = line_of (pos 0 ∷ take front (drop (width * i) t))

-- the lines of its first n rows
unfoldable pub row_lines : (width front : ℕ) → List ℤ → ℕ → Bytes
row_lines width front t zero = []
row_lines width front t (suc n) = row_lines width front t n ++ row_line width front t n

-- numbers of a node row that are printed: kind, base, range and unit
abbrev pub node_front : ℕ
node_front = 4

-- bytes of the buffer that two tables are printed into
abbrev pub print_room : ℕ
print_room = 2 ^ 18

-- a number that is printed: 0 to 2^48, so it has at most 15 digits
abbrev pub Printed : ℤ → Type 0
Printed v = (pos 0 ≤ℤ v) × (v ≤ℤ pos max_units)

-- tables of such numbers, with no more rows than a graph may have
pub record Printable (ns es : List ℤ) : Type 0 where
  pub node_numbers : (v : ℤ) → v ∈ ns → Printed v
  pub edge_numbers : (v : ℤ) → v ∈ es → Printed v
  pub nodes : length ns ≤ node_width * max_nodes
  pub edges : length es ≤ edge_width * max_edges
