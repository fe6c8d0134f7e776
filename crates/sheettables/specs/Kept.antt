-- What is kept of the lines of a sheet: the three numbers of each that make its edge, and the size of each block by its number. Assumes nothing.
use Rattle.std.specs.Prelude.{◌≡◌, ℕ, suc, ◌*◌, ◌<◌, ℤ, pos, length, take, get_or}
use mathlib.Core.List.{List, [], ◌∷◌, flat_map}
use Rattle.model.specs.Limits.{edge_width, max_edges, sheet_numbers}
use Rattle.model.specs.Sheet.{SheetLine, GoodSheet, size_of}

-- initiator, block and base of a line
unfoldable pub line_numbers : SheetLine → List ℤ
line_numbers s = s.initiator ∷ s.block ∷ s.base ∷ []

-- numbers of lines that are kept at most: those of one line more than a graph may have edges
abbrev pub line_room : ℕ
line_room = edge_width * suc max_edges

-- the size of each block by its number, and 0 for a number that no line has
pub record Sized (ls : List SheetLine) (sizes : List ℤ) : Type 0 where
  pub whole : length sizes ≡ sheet_numbers
  pub size : (m : ℕ) → m < sheet_numbers → get_or sizes m (pos 0) ≡ size_of ls (pos m)

-- what is kept of the lines of a good sheet
pub record Kept (ls : List SheetLine) (kept ranges : List ℤ) : Type 0 where
  pub good : GoodSheet ls
  pub lines : kept ≡ take line_room (flat_map line_numbers ls)
  pub sizes : Sized ls ranges
