-- The limits of documents 01 and 02, and the numbers of a row. Assumes nothing.
use Rattle.std.specs.Prelude.{ℕ, ◌^◌, ◌-◌, ℤ, pos}

-- numbers of a node row, an edge row and a pair row
abbrev pub node_width : ℕ
node_width = 5

abbrev pub edge_width : ℕ
edge_width = 3

abbrev pub pair_width : ℕ
pair_width = 3

-- numbers of a record in a list
abbrev pub record_width : ℕ
record_width = 3

-- rows of a table at most
abbrev pub max_nodes : ℕ
max_nodes = 2000

abbrev pub max_edges : ℕ
max_edges = 2600

abbrev pub max_pairs : ℕ
max_pairs = 1000

-- base + range of a node, and the size of an offset, in address units, at most
abbrev pub max_units : ℕ
max_units = 2 ^ 48

-- the bit after the last of a node, and the size of a bit offset, at most
abbrev pub max_bits : ℕ
max_bits = 2 ^ 55

-- the highest bit address of any node that keeps the limits
abbrev pub last_address : ℤ
last_address = pos (max_bits - 1)

-- the highest specification leaf bit where a bank may begin
abbrev pub last_at : ℤ
last_at = pos (max_bits - 1)

-- bit addresses lie below this, bit offsets within: a bit address plus or less a bit offset is a number of 64 bits. Displacements of a group may be lower
-- (`Subtractable`)
abbrev pub address_room : ℕ
address_room = 2 ^ 62

-- edges of a chain at most
abbrev pub max_chain : ℕ
max_chain = 64

-- paths from a root to a leaf, or to the banks of a group together, at most
abbrev pub max_paths : ℕ
max_paths = 1024

-- addresses of a batch at most
abbrev pub max_batch : ℕ
max_batch = 512

-- numbers of a row of a batch
abbrev pub batch_width : ℕ
batch_width = 2

-- bytes of a text at most
abbrev pub max_text : ℕ
max_text = 65536

-- bytes of mapcheck's report buffer
abbrev pub report_room : ℕ
report_room = 65536

-- digits of a value at most
abbrev pub max_digits : ℕ
max_digits = 18

-- numbers of initiators and of blocks on a sheet lie below this
abbrev pub sheet_numbers : ℕ
sheet_numbers = 1000

-- bytes of an initiator's space on a sheet: base + size of a line is at most this
abbrev pub sheet_bytes : ℕ
sheet_bytes = 2 ^ 48

-- bits of a byte
abbrev pub byte_bits : ℕ
byte_bits = 8

-- callers of a tally, and counts of each
abbrev pub callers : ℕ
callers = 16

abbrev pub count_kinds : ℕ
count_kinds = 4

-- a tally's count stays from here on
abbrev pub count_ceiling : ℕ
count_ceiling = 2 ^ 63 - 1

-- what the root row counts for in the row of refusal 10
abbrev pub root_stride : ℕ
root_stride = 1000
