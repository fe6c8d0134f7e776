-- What it is for a text to be the first two tables of a map file. Assumes nothing.
use Rattle.std.specs.Prelude.{◌≡◌, List, ◌∷◌, ◌++◌, ℤ, pos}
use Rattle.model.specs.Bytes.{Bytes, line_feed}
use Rattle.model.specs.MapFile.{node_table, edge_table}
use Rattle.model.specs.FileRules.{table_lines, TableOf, node_numbers, edge_numbers}

-- the text is a node table and an edge table by the file rules, with an empty line between them, and their numbers on side 0 are these
pub record MapTables (ns es : List ℤ) (text : Bytes) : Type 0 where
  pub nodes : TableOf node_table
  pub edges : TableOf edge_table
  pub writes : text ≡ table_lines nodes.fields nodes.rows ++ line_feed ∷ table_lines edges.fields edges.rows
  pub spec_nodes : node_numbers (pos 0) nodes.rows ≡ ns
  pub spec_edges : edge_numbers (pos 0) edges.rows ≡ es
