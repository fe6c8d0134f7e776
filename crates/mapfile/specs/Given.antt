-- What reading a map file gives: its tables in lent slices. Assumes nothing.
use Rattle.std.specs.Prelude.{Err, Ok, Result}
use Rattle.std.specs.Prelude.{◌≡◌, Bool, true, false, List, ℕ, ◌≤◌, ℤ, length, take}
use Rattle.model.specs.Bytes.{Bytes}
use Rattle.model.specs.MapFile.{Table, node_table, edge_table, pair_table}
use Rattle.model.specs.Compare.{Tables}
use Rattle.model.specs.Calls.{refused, full}
use Rattle.model.specs.Answers.{refusal_of}
use Rattle.model.specs.Reader.{read_map}
use Rattle.mapfile.specs.declared.FileTable.{FileTable}
use Rattle.mapfile.specs.declared.Sizes.{Sizes}
use Rattle.mapfile.specs.declared.FileTable.TheVariants as fileTable
use Rattle.mapfile.specs.Tables.{node_room, edge_room, pair_room, Stored}
use Rattle.model.specs.declared.Reason.{Reason}

-- ---- the tables of the file

-- the names of a table of the file
abbrev pub table_of : FileTable → Table
table_of fileTable.Nodes = node_table
table_of fileTable.Edges = edge_table
table_of fileTable.Pairs = pair_table

-- no table follows it
abbrev pub is_last : FileTable → Bool
is_last fileTable.Nodes = false
is_last fileTable.Edges = false
is_last fileTable.Pairs = true

-- how many numbers of one side or role are kept of it at most
abbrev pub room_of : FileTable → ℕ
room_of fileTable.Nodes = node_room
room_of fileTable.Edges = edge_room
room_of fileTable.Pairs = pair_room

-- ---- the map file

-- the six slices that a caller lends for the tables
abbrev pub lent : List ℤ → List ℤ → List ℤ → List ℤ → List ℤ → List ℤ → Tables
lent spec_nodes spec_edges impl_nodes impl_edges root_pairs leaf_pairs =
    record { spec_nodes = spec_nodes; spec_edges = spec_edges; impl_nodes = impl_nodes; impl_edges = impl_edges; root_pairs = root_pairs; leaf_pairs = leaf_pairs }

-- each has its room
pub record Lent (t : Tables) : Type 0 where
  pub spec_nodes : node_room ≤ length t.spec_nodes
  pub spec_edges : edge_room ≤ length t.spec_edges
  pub impl_nodes : node_room ≤ length t.impl_nodes
  pub impl_edges : edge_room ≤ length t.impl_edges
  pub root_pairs : pair_room ≤ length t.root_pairs
  pub leaf_pairs : pair_room ≤ length t.leaf_pairs

-- the tables of these sizes at the front of the lent slices
abbrev pub front : Tables → Sizes → Tables
front t z =
    lent (take z.spec_nodes t.spec_nodes) (take z.spec_edges t.spec_edges) (take z.impl_nodes t.impl_nodes)
    (take z.impl_edges t.impl_edges) (take z.root_pairs t.root_pairs) (take z.leaf_pairs t.leaf_pairs)

-- the six tables of the text are read: cut to their rooms they stand at the front of the lent slices
pub record TablesRead (text : Bytes) (before after : Tables) (z : Sizes) : Type 0 where
  pub tables : Tables
  pub read : read_map text ≡ full tables
  pub spec_nodes : Stored (take node_room tables.spec_nodes) before.spec_nodes after.spec_nodes z.spec_nodes
  pub spec_edges : Stored (take edge_room tables.spec_edges) before.spec_edges after.spec_edges z.spec_edges
  pub impl_nodes : Stored (take node_room tables.impl_nodes) before.impl_nodes after.impl_nodes z.impl_nodes
  pub impl_edges : Stored (take edge_room tables.impl_edges) before.impl_edges after.impl_edges z.impl_edges
  pub root_pairs : Stored (take pair_room tables.root_pairs) before.root_pairs after.root_pairs z.root_pairs
  pub leaf_pairs : Stored (take pair_room tables.leaf_pairs) before.leaf_pairs after.leaf_pairs z.leaf_pairs

-- what reading a map file gives
abbrev pub ReadGiven : Bytes → Tables → Tables → (Result Sizes Reason) → Type 0
ReadGiven text before after (Ok z) = TablesRead text before after z
ReadGiven text before after (Err r) = read_map text ≡ refused (refusal_of r)
