-- The file rules, as a relation that goes from tables to bytes: what a text that keeps them looks like. No reader. Assumes nothing.
use Rattle.std.specs.Prelude.{◌≡◌, ◌≤◌, ℤ, pos, length}
use mathlib.Core.List.{List, [], ◌∷◌, ◌++◌, map, flat_map}
use Rattle.integers.specs.Integers.{eq_z}
use Rattle.lists.specs.Lists.{◌∈◌, keep}
use Rattle.model.specs.Limits.{max_text}
use Rattle.model.specs.Bytes.{Bytes, bytes, line_feed, shown, spaced}
use Rattle.model.specs.MapFile.{Values, RowCondition, Table, GoodFields, GoodRow, node_table, edge_table, pair_table}
use Rattle.model.specs.Compare.{Tables}

-- the line that writes a row, its values in the order of the names line
unfoldable pub row_line : List Bytes → Values → Bytes
row_line fields value = spaced (map (λ n. shown (value n)) fields) ++ (line_feed ∷ [])

-- the lines of a table: its names, then its rows
unfoldable pub table_lines : List Bytes → List Values → Bytes
table_lines fields rows = spaced fields ++ line_feed ∷ flat_map (row_line fields) rows

-- none of the conditions holds of the row, after these rows before it, the nearest first
unfoldable pub MeetsNone : List RowCondition → List Values → Values → Type 0
MeetsNone [] before value = Unit {0}
MeetsNone (a ∷ more) before value = (a.holds before value → ⊥) × MeetsNone more before value

-- none of the conditions holds of any of these rows, each after the rows before it
unfoldable pub AllMeetNone : List RowCondition → List Values → List Values → Type 0
AllMeetNone conditions before [] = Unit {0}
AllMeetNone conditions before (value ∷ values) = MeetsNone conditions before value × AllMeetNone conditions (value ∷ before) values

-- a table of the file: its names in the order of its names line, and its rows
pub record TableOf (t : Table) : Type 0 where
  pub fields : List Bytes
  pub named : GoodFields t fields
  pub rows : List Values
  pub good : (value : Values) → value ∈ rows → GoodRow t fields value
  pub meets_none : AllMeetNone t.conditions [] rows

-- the numbers of the rows of one side or role, in row order: of each row those under these names
unfoldable pub numbers_under : Bytes → ℤ → List Bytes → List Values → List ℤ
numbers_under key k names rows = flat_map (λ value. map value names) (keep (λ value. eq_z (value key) k) rows)

unfoldable pub node_numbers : ℤ → List Values → List ℤ
node_numbers side rows = numbers_under (bytes "side") side (bytes "kind" ∷ bytes "base" ∷ bytes "range" ∷ bytes "unit" ∷ bytes "access" ∷ []) rows

unfoldable pub edge_numbers : ℤ → List Values → List ℤ
edge_numbers side rows = numbers_under (bytes "side") side (bytes "from" ∷ bytes "to" ∷ bytes "offset" ∷ []) rows

unfoldable pub pair_numbers : ℤ → List Values → List ℤ
pair_numbers role rows = numbers_under (bytes "role") role (bytes "spec" ∷ bytes "impl" ∷ bytes "at" ∷ []) rows

-- the text keeps the file rules and its tables are these: three tables, an empty line after the first and the second.
-- Side 0 is the specification, 1 the implementation; role 0 root, 1 leaf
pub record KeepsRules (text : Bytes) (t : Tables) : Type 0 where
  pub nodes : TableOf node_table
  pub edges : TableOf edge_table
  pub pairs : TableOf pair_table
  pub short : length text ≤ max_text
  pub writes : text
      ≡ table_lines nodes.fields nodes.rows ++ line_feed ∷ (table_lines edges.fields edges.rows ++ line_feed ∷ table_lines pairs.fields pairs.rows)
  pub spec_nodes : t.spec_nodes ≡ node_numbers (pos 0) nodes.rows
  pub spec_edges : t.spec_edges ≡ edge_numbers (pos 0) edges.rows
  pub impl_nodes : t.impl_nodes ≡ node_numbers (pos 1) nodes.rows
  pub impl_edges : t.impl_edges ≡ edge_numbers (pos 1) edges.rows
  pub root_pairs : t.root_pairs ≡ pair_numbers (pos 0) pairs.rows
  pub leaf_pairs : t.leaf_pairs ≡ pair_numbers (pos 1) pairs.rows

-- t are the tables of the text, if it has any: a text that keeps the file rules has no others
abbrev pub TablesOf : Bytes → Tables → Type 0
TablesOf text t = (u : Tables) → KeepsRules text u → u ≡ t
