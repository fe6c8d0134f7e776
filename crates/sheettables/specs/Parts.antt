-- What each part of the making of the two tables asks and leaves. Assumes nothing.
use Rattle.std.specs.Prelude.{◌≡◌, Bool, cond, ℕ, zero, suc, ◌+◌, ◌*◌, ◌/◌, ◌≤◌, ◌<◌, ℤ, pos, nat_abs, length, get_or, set}
use mathlib.Core.List.{List, [], ◌∷◌, ◌++◌, flat_map}
use Rattle.std.specs.Int.Signed.{lt_z}
use Rattle.model.specs.Limits.{edge_width, sheet_numbers, sheet_bytes, max_nodes}
use Rattle.model.specs.Sheet.{SheetNumber, byte_node}

-- ---- the numbers of the lines

-- how many lines these are the numbers of
abbrev pub line_count : List ℤ → ℕ
line_count lines = length lines / edge_width

-- the number at a place, as an index
abbrev pub index_at : List ℤ → ℕ → ℕ
index_at lines at = nat_abs (get_or lines at (pos 0))

-- initiator and block of each line are numbers of a sheet
pub record Numbered (lines : List ℤ) : Type 0 where
  pub initiator : (k : ℕ) → k < line_count lines → SheetNumber (get_or lines (edge_width * k) (pos 0))
  pub block : (k : ℕ) → k < line_count lines → SheetNumber (get_or lines (edge_width * k + 1) (pos 0))

-- ---- ranges: by number the range of the node, 0 for a number that is not on the sheet

-- spaces that held `old`, with 2^48 for the initiator of each of the first k lines
unfoldable pub marked : List ℤ → ℕ → List ℤ → List ℤ
marked lines zero old = old
marked lines (suc k) old = set (marked lines k old) (index_at lines (edge_width * k)) (pos sheet_bytes)

-- whether number n is on the sheet
abbrev pub is_present : List ℤ → ℕ → Bool
is_present ranges n = lt_z (pos 0) (get_or ranges n (pos 0))

-- the numbers below n that are on the sheet, ascending
unfoldable pub present : List ℤ → ℕ → List ℕ
present ranges zero = []
present ranges (suc n) = let lower = present ranges n in cond (is_present ranges n) (lower ++ (n ∷ [])) lower

-- ---- the node rows

-- the row of number v: the numbers on the sheet below it have the rows from `first` on
abbrev pub row_from : ℕ → List ℤ → ℕ → ℕ
row_from first ranges v = first + length (present ranges v)

-- each number has its row, and `next` is the row behind them
pub record Rowed (ranges : List ℤ) (first : ℕ) (rows : List ℕ) (next : ℕ) : Type 0 where
  pub each : (v : ℕ) → v < sheet_numbers → get_or rows v 0 ≡ row_from first ranges v
  pub behind : next ≡ row_from first ranges sheet_numbers

-- the node rows of the numbers below n
unfoldable pub nodes_of : ℤ → List ℤ → ℕ → List ℤ
nodes_of kind ranges n = flat_map (λ v. byte_node kind (get_or ranges v (pos 0))) (present ranges n)

-- ---- the edge rows

-- a row for each number, none above the last of a table
pub record RowsWithin (rows : List ℕ) : Type 0 where
  pub whole : length rows ≡ sheet_numbers
  pub within : (v : ℕ) → v < sheet_numbers → get_or rows v 0 ≤ max_nodes

-- the edge row of line k, by the rows of initiators and of blocks
abbrev pub line_edge : List ℕ → List ℕ → List ℤ → ℕ → List ℤ
line_edge roots leaves lines k =
    pos (get_or roots (index_at lines (edge_width * k)) 0)
    ∷ pos (get_or leaves (index_at lines (edge_width * k + 1)) 0)
    ∷ get_or lines (edge_width * k + 2) (pos 0)
    ∷ []

-- the edge rows of the first k lines
unfoldable pub edges_of : List ℕ → List ℕ → List ℤ → ℕ → List ℤ
edges_of roots leaves lines zero = []
edges_of roots leaves lines (suc k) = edges_of roots leaves lines k ++ line_edge roots leaves lines k
