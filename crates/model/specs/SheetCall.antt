-- The call that reads a sheet: the two tables that it writes, what both buffers hold afterwards, and what is printed for a sheet. Assumes nothing.
use mathlib.Core.List.{List, [], ◌∷◌, ◌++◌, flat_map}
use Rattle.std.proofs.Math.Option.{Option}
use Rattle.std.specs.Prelude.{ℕ, ◌*◌, ◌<◌, ltb, ℤ, pos, length}
use Rattle.model.specs.Limits.{node_width, edge_width, max_nodes, max_edges}
use Rattle.model.specs.Rows.{Node, Edge, node_rows, edge_rows}
use Rattle.model.specs.Refusals.{Refusal, Condition, refuse, ◌next◌, output_conditions}
use Rattle.model.specs.Checks.{when, ◌then◌, check_output}
use Rattle.model.specs.Calls.{Answer, refused, full, answer, buffer_after}
use Rattle.model.specs.Bytes.{Bytes, bytes}
use Rattle.model.specs.Report.{line_of, refusal_report}
use Rattle.model.specs.Sheet.{SheetLine, sheet_nodes, sheet_edges}
use Rattle.model.specs.SheetFile.{sheet_file_conditions, read_sheet}

-- ---- after the whole text

-- 1 for more lines than a graph may have edges, then 11 where either table is longer than its buffer
unfoldable pub made_conditions : ℕ → ℕ → List SheetLine → List Condition
made_conditions node_room edge_room ls =
    refuse 1 1 0 (max_edges < length ls)
    next output_conditions (length (sheet_nodes ls)) node_room
    next output_conditions (length (sheet_edges ls)) edge_room

-- the check of these
unfoldable pub check_made : ℕ → ℕ → List SheetLine → Option Refusal
check_made node_room edge_room ls =
    when (ltb max_edges (length ls)) 1 1 0
    then check_output (length (sheet_nodes ls)) node_room
    then check_output (length (sheet_edges ls)) edge_room

-- the lines, unless one of these holds
unfoldable pub made : ℕ → ℕ → List SheetLine → Answer (List SheetLine)
made node_room edge_room ls = answer (check_made node_room edge_room ls) ls

-- the same for what reading the text came to
unfoldable pub made_of : ℕ → ℕ → Answer (List SheetLine) → Answer (List SheetLine)
made_of node_room edge_room (refused r) = refused r
made_of node_room edge_room (full ls) = made node_room edge_room ls

-- the lines of a sheet whose tables are written into buffers of so many numbers
unfoldable pub sheet_answer : ℕ → ℕ → Bytes → Answer (List SheetLine)
sheet_answer node_room edge_room text = made_of node_room edge_room (read_sheet text)

-- the conditions of the call, in order: text, number of lines, output. ls are the lines of the text (SheetFile.LinesOf)
unfoldable pub sheet_conditions : ℕ → ℕ → Bytes → List SheetLine → List Condition
sheet_conditions node_room edge_room text ls = sheet_file_conditions text next made_conditions node_room edge_room ls

-- ---- what the call returns, and what its buffers hold afterwards

-- how many numbers the two tables have
pub record TableLengths : Type 0 where
  pub nodes : ℕ
  pub edges : ℕ

-- the lengths of the two tables of an answer
unfoldable pub lengths_of : Answer (List SheetLine) → Answer TableLengths
lengths_of (refused r) = refused r
lengths_of (full ls) = full (record { nodes = length (sheet_nodes ls); edges = length (sheet_edges ls) })

-- one of the two tables of an answer
unfoldable pub table_in : (List SheetLine → List ℤ) → Answer (List SheetLine) → Answer (List ℤ)
table_in table (refused r) = refused r
table_in table (full ls) = full (table ls)

-- what the call returns, and what its buffers of nodes and of edges hold afterwards
unfoldable pub sheet_gives : Bytes → List ℤ → List ℤ → Answer TableLengths
sheet_gives text nodes edges = lengths_of (sheet_answer (length nodes) (length edges) text)

unfoldable pub sheet_nodes_after : Bytes → List ℤ → List ℤ → List ℤ
sheet_nodes_after text nodes edges = buffer_after (table_in sheet_nodes (sheet_answer (length nodes) (length edges) text)) nodes

unfoldable pub sheet_edges_after : Bytes → List ℤ → List ℤ → List ℤ
sheet_edges_after text nodes edges = buffer_after (table_in sheet_edges (sheet_answer (length nodes) (length edges) text)) edges

-- ---- what is printed for a sheet

-- the lines of a node row and of an edge row of side 0, the specification. A node row is written without its access, and absent means 0
unfoldable pub node_line : Node → Bytes
node_line n = line_of (pos 0 ∷ n.kind ∷ n.base ∷ n.range ∷ n.unit ∷ [])

unfoldable pub edge_line : Edge → Bytes
edge_line e = line_of (pos 0 ∷ e.from ∷ e.to ∷ e.offset ∷ [])

-- a node table and an edge table as the first two tables of a map file
unfoldable pub graph_lines : List ℤ → List ℤ → Bytes
graph_lines ns es =
    bytes "side kind base range unit\n" ++ flat_map node_line (node_rows ns) ++ bytes "\nside from to offset\n" ++ flat_map edge_line (edge_rows es)

-- the two tables, or the refusal as two lines
unfoldable pub sheet_printed_of : Answer (List SheetLine) → Bytes
sheet_printed_of (refused r) = refusal_report r
sheet_printed_of (full ls) = graph_lines (sheet_nodes ls) (sheet_edges ls)

-- what is printed for a sheet, whose tables are written into buffers that hold the largest
unfoldable pub sheet_printed : Bytes → Bytes
sheet_printed text = sheet_printed_of (sheet_answer (node_width * max_nodes) (edge_width * max_edges) text)
