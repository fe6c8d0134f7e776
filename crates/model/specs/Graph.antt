-- Address map graphs, and the bits of a node and of an edge. Assumes nothing.
use Rattle.std.specs.Prelude.{List, ℤ, pos, negsuc, ◌+ℤ◌, ◌-ℤ◌, ◌*ℤ◌, ◌≤ℤ◌, ◌<ℤ◌, length, get_or}
use Rattle.model.specs.Rows.{Node, Edge, node_rows, edge_rows}

-- kinds of nodes: address space, segment, address block
abbrev pub space : ℤ
space = pos 0

abbrev pub segment : ℤ
segment = pos 1

abbrev pub block : ℤ
block = pos 2

-- access of nodes: read and write, read only, write only (document 02, item 7)
abbrev pub read_write : ℤ
read_write = pos 0

abbrev pub read_only : ℤ
read_only = pos 1

abbrev pub write_only : ℤ
write_only = pos 2

-- a graph is two tables
pub record Graph : Type 0 where
  pub nodes : List Node
  pub edges : List Edge

-- the graph of a node table and an edge table
unfoldable pub graph_of : List ℤ → List ℤ → Graph
graph_of ns es = record { nodes = node_rows ns; edges = edge_rows es }

-- v is a node row of the graph
pub record NodeRow (g : Graph) (v : ℤ) : Type 0 where
  pub low : pos 0 ≤ℤ v
  pub high : v <ℤ pos (length g.nodes)

-- what stands for a row that is not there
abbrev pub no_node : Node
no_node = record { row = 0; kind = pos 0; base = pos 0; range = pos 0; unit = pos 0; access = pos 0 }

-- node row v of the graph
unfoldable pub node : Graph → ℤ → Node
node g (pos v) = get_or g.nodes v no_node
node g (negsuc v) = no_node

-- first bit of a node = base × unit (000, 2.7 to 2.9)
unfoldable pub first_bit : Node → ℤ
first_bit n = n.base *ℤ n.unit

-- last bit of a node = (base + range) × unit − 1
unfoldable pub last_bit : Node → ℤ
last_bit n = (n.base +ℤ n.range) *ℤ n.unit -ℤ pos 1

-- bit offset of an edge = offset × unit of the node `to` (000, 2.10)
unfoldable pub bit_offset : Graph → Edge → ℤ
bit_offset g e = e.offset *ℤ (node g e.to).unit
