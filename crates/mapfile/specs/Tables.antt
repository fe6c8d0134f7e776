-- The tables of a text, cut: of each no more rows are kept than one beyond its limit. Assumes nothing.
use Rattle.std.specs.Prelude.{ℕ, suc, ◌*◌, take}
use Rattle.model.specs.Limits.{node_width, edge_width, pair_width, max_nodes, max_edges, max_pairs}
use Rattle.model.specs.Compare.{Tables}
pub use Rattle.sides.specs.Given.{Stored}

-- numbers of one side or role that are kept of a table at most: those of one row more than the limit
abbrev pub node_room : ℕ
node_room = node_width * suc max_nodes

abbrev pub edge_room : ℕ
edge_room = edge_width * suc max_edges

abbrev pub pair_room : ℕ
pair_room = pair_width * suc max_pairs

-- the tables, each cut to its room
unfoldable pub cut : Tables → Tables
cut t =
    record {
      spec_nodes = take node_room t.spec_nodes;
      spec_edges = take edge_room t.spec_edges;
      impl_nodes = take node_room t.impl_nodes;
      impl_edges = take edge_room t.impl_edges;
      root_pairs = take pair_room t.root_pairs;
      leaf_pairs = take pair_room t.leaf_pairs;
    }
