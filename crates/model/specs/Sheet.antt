-- The global address sheet (document 02, item 4): its lines, the conditions 17 and 18, and the specification graph that it makes. Assumes nothing.
use Rattle.std.specs.Prelude.{◌≡◌, cond, ◌≢◌, ◌↔◌, ℕ, suc, ◌+◌, ◌<◌, ℤ, pos, ◌+ℤ◌, ◌*ℤ◌, ◌≤ℤ◌, ◌<ℤ◌, length}
use mathlib.Core.List.{List, [], ◌∷◌, ◌++◌, map, flat_map}
use Rattle.integers.specs.Integers.{eq_z}
use Rattle.lists.specs.Lists.{◌∈◌}
use Rattle.model.specs.declared.WalkKind.{WalkKind}
use Rattle.model.specs.Limits.{sheet_numbers, sheet_bytes, byte_bits}
use Rattle.model.specs.Graph.{Graph, graph_of, space, block, read_write}
use Rattle.model.specs.Walk.{Reached}
use Rattle.model.specs.Paths.{Root, Leaf}
use Rattle.model.specs.Calls.{ascending}

-- a line of the sheet: an initiator and a block by their numbers, base and size in bytes
pub record SheetLine : Type 0 where
  pub initiator : ℤ
  pub block : ℤ
  pub base : ℤ
  pub size : ℤ

-- ---- 17 and 18

-- the number of an initiator or of a block
abbrev pub SheetNumber : ℤ → Type 0
SheetNumber n = (pos 0 ≤ℤ n) × (n <ℤ pos sheet_numbers)

-- 17: a number outside 0..999, a base below 0, a size below 1, or base + size above 2^48
pub data BadLine (s : SheetLine) : Type 0 where
  no_initiator : (SheetNumber s.initiator → ⊥) → BadLine s
  no_block : (SheetNumber s.block → ⊥) → BadLine s
  low_base : s.base <ℤ pos 0 → BadLine s
  low_size : s.size <ℤ pos 1 → BadLine s
  high_end : pos sheet_bytes <ℤ (s.base +ℤ s.size) → BadLine s

-- 18: the block is given another size on an earlier line
abbrev pub OtherSize : List SheetLine → SheetLine → Type 0
OtherSize earlier s = (e : SheetLine) × (e ∈ earlier) × (e.block ≡ s.block) × (e.size ≢ s.size)

-- lines that neither 17 nor 18 is given for: none is bad, and lines of one block give one size
pub record GoodSheet (ls : List SheetLine) : Type 0 where
  pub good : (s : SheetLine) → s ∈ ls → BadLine s → ⊥
  pub sizes : (e s : SheetLine) → e ∈ ls → s ∈ ls → e.block ≡ s.block → e.size ≡ s.size

-- ---- the specification graph

-- the initiator numbers on the sheet, ascending, and the block numbers, ascending, each once
unfoldable pub initiators : List SheetLine → List ℤ
initiators ls = ascending (map (λ s. s.initiator) ls)

unfoldable pub blocks : List SheetLine → List ℤ
blocks ls = ascending (map (λ s. s.block) ls)

-- the place of a number in a list, counted from 0
unfoldable pub place_among : ℤ → List ℤ → ℕ
place_among n [] = 0
place_among n (m ∷ ms) = let later = place_among n ms in cond (eq_z n m) 0 (suc later)

-- the node row of initiator n; that of block m, behind those of the initiators
unfoldable pub initiator_row : List SheetLine → ℤ → ℕ
initiator_row ls n = place_among n (initiators ls)

unfoldable pub block_row : List SheetLine → ℤ → ℕ
block_row ls m = length (initiators ls) + place_among m (blocks ls)

-- the size of block m: that of the first line that has it; 0 where none has it
unfoldable pub size_of : List SheetLine → ℤ → ℤ
size_of [] m = pos 0
size_of (s ∷ ls) m = let later = size_of ls m in cond (eq_z s.block m) s.size later

-- the five numbers of a node of base 0 and unit 8 that may be read and written (document 01: kind, base, range, unit; document 02, item 7: access)
unfoldable pub byte_node : ℤ → ℤ → List ℤ
byte_node kind range = kind ∷ pos 0 ∷ range ∷ pos byte_bits ∷ read_write ∷ []

-- the node table: a space of 2^48 bytes for each initiator, then a block of its size for each block
unfoldable pub sheet_nodes : List SheetLine → List ℤ
sheet_nodes ls =
    flat_map (λ n. byte_node space (pos sheet_bytes)) (initiators ls) ++ flat_map (λ m. byte_node block (size_of ls m)) (blocks ls)

-- the three numbers of a line's edge: from its initiator's row to its block's row, with the base as offset
unfoldable pub edge_of : List SheetLine → SheetLine → List ℤ
edge_of ls s = pos (initiator_row ls s.initiator) ∷ pos (block_row ls s.block) ∷ s.base ∷ []

-- the edge table: an edge per line, in line order
unfoldable pub sheet_edges : List SheetLine → List ℤ
sheet_edges ls = flat_map (edge_of ls) ls

-- the graph of the two tables
unfoldable pub sheet_graph : List SheetLine → Graph
sheet_graph ls = graph_of (sheet_nodes ls) (sheet_edges ls)

-- ---- what a user expects of it

-- bit c of a byte
abbrev pub bit_of : ℤ → ℕ → ℤ
bit_of byte c = byte *ℤ pos byte_bits +ℤ pos c

-- some line gives (x, y) for initiator n and block m: x is bit c of byte base + i of the initiator and y is bit c of byte i of the block, for an i
-- below the line's size
pub record Given (ls : List SheetLine) (n m x y : ℤ) : Type 0 where
  pub line : SheetLine
  pub on_sheet : line ∈ ls
  pub initiator : line.initiator ≡ n
  pub block : line.block ≡ m
  pub i : ℕ
  pub within : pos i <ℤ line.size
  pub c : ℕ
  pub below : c < byte_bits
  pub root_bit : x ≡ bit_of (line.base +ℤ pos i) c
  pub leaf_bit : y ≡ bit_of (pos i) c

-- the graph has a root for each initiator and a leaf for each block and no other, and a root bit of an initiator reaches a leaf bit of a block
-- exactly where some line gives the two, by either kind of walk
pub record AsGiven (ls : List SheetLine) (g : Graph) : Type 0 where
  pub roots : (v : ℤ) → Root g v ↔ ((n : ℤ) × (n ∈ initiators ls) × (v ≡ pos (initiator_row ls n)))
  pub leaves : (v : ℤ) → Leaf g v ↔ ((m : ℤ) × (m ∈ blocks ls) × (v ≡ pos (block_row ls m)))
  pub own_root : (n k : ℤ) → n ∈ initiators ls → k ∈ initiators ls → initiator_row ls n ≡ initiator_row ls k → n ≡ k
  pub own_leaf : (m k : ℤ) → m ∈ blocks ls → k ∈ blocks ls → block_row ls m ≡ block_row ls k → m ≡ k
  pub walks : (kind : WalkKind) (n m : ℤ) → n ∈ initiators ls → m ∈ blocks ls → (x y : ℤ)
      → Reached kind g (pos (initiator_row ls n)) (pos (block_row ls m)) x y ↔ Given ls n m x y
