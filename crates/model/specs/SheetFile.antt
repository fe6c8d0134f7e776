-- The text of a sheet: its table, the file rules as a relation from lines to bytes, its conditions, and the reader, computed. Assumes nothing.
use Rattle.std.specs.Prelude.{◌≡◌, Bool, true, not, cond, ◌&&◌, List, [], ◌∷◌, map, ℕ, ◌≤◌, ℤ, pos, ◌+ℤ◌, length, get_or}
use Rattle.std.proofs.Math.Option.{Option, none, some}
use Rattle.std.specs.Int.Signed.{le_z, lt_z}
use Rattle.integers.specs.Integers.{eq_z}
use Rattle.lists.specs.Lists.{any}
use Rattle.model.specs.Limits.{max_text, sheet_numbers, sheet_bytes}
use Rattle.model.specs.Refusals.{Condition, ◌next◌}
use Rattle.model.specs.Calls.{Answer, refused, full}
use Rattle.model.specs.Bytes.{Bytes, bytes}
use Rattle.model.specs.MapFile.{Values, RowCondition, Table, lines, whole_text_conditions, names, line_conditions}
use Rattle.model.specs.FileRules.{table_lines, TableOf}
use Rattle.model.specs.Reader.{check_text, RowCheck, Reading, stopped, rows, read_table}
use Rattle.model.specs.Sheet.{SheetLine, BadLine, OtherSize}

-- ---- the file rules

-- the line of the sheet that a row of its table is
abbrev pub sheet_line : Values → SheetLine
sheet_line value =
    record { initiator = value (bytes "initiator"); block = value (bytes "block"); base = value (bytes "base"); size = value (bytes "size") }

-- 17: the line is bad
abbrev pub bad_line : RowCondition
bad_line = record { number = 17; holds = λ before value. BadLine (sheet_line value) }

-- 18: an earlier line gives its block another size
abbrev pub other_size : RowCondition
other_size = record { number = 18; holds = λ before value. OtherSize (map sheet_line before) (sheet_line value) }

-- the table of a sheet: no side, no optional name; 17 before 18 on a line
unfoldable pub sheet_table : Table
sheet_table =
    record { names = bytes "initiator" ∷ bytes "block" ∷ bytes "base" ∷ bytes "size" ∷ []; optional = []; conditions = bad_line ∷ other_size ∷ [] }

-- the text keeps the file rules and its lines are these: one table, which ends with the text, and of no line 17 or 18 holds
pub record KeepsSheet (text : Bytes) (ls : List SheetLine) : Type 0 where
  pub table : TableOf sheet_table
  pub short : length text ≤ max_text
  pub writes : text ≡ table_lines table.fields table.rows
  pub lines : ls ≡ map sheet_line table.rows

-- ls are the lines of the text, if it has any: a text that keeps the rules has no others
abbrev pub LinesOf : Bytes → List SheetLine → Type 0
LinesOf text ls = (ks : List SheetLine) → KeepsSheet text ks → ks ≡ ls

-- text: 12 as listed over the whole text, then line by line 13, or 14, 17 and 18
unfoldable pub sheet_file_conditions : Bytes → List Condition
sheet_file_conditions text = whole_text_conditions text next line_conditions 1 (names sheet_table []) (lines text)

-- ---- the reader, computed

-- the line that a row of numbers is, in the order of the table's names
unfoldable pub line_of_row : List ℤ → SheetLine
line_of_row r = record { initiator = get_or r 0 (pos 0); block = get_or r 1 (pos 0); base = get_or r 2 (pos 0); size = get_or r 3 (pos 0) }

-- the number is in 0..999
unfoldable pub is_sheet_number : ℤ → Bool
is_sheet_number n = le_z (pos 0) n && lt_z n (pos sheet_numbers)

-- base and size keep their limits
unfoldable pub good_bytes : SheetLine → Bool
good_bytes s = le_z (pos 0) s.base && le_z (pos 1) s.size && le_z (s.base +ℤ s.size) (pos sheet_bytes)

-- a line that 17 is not for
unfoldable pub good_line : SheetLine → Bool
good_line s = is_sheet_number s.initiator && is_sheet_number s.block && good_bytes s

-- an earlier line of the block, with another size
unfoldable pub clashes_with : SheetLine → SheetLine → Bool
clashes_with s e = eq_z e.block s.block && not (eq_z e.size s.size)

-- the check of a line after these lines: 17, then 18
unfoldable pub check_sheet_line : List SheetLine → SheetLine → Option ℕ
check_sheet_line before s = let other = any (clashes_with s) before in cond (good_line s) (cond other (some 18) none) (some 17)

-- the check of a row of numbers
unfoldable pub check_sheet_row : RowCheck
check_sheet_row before r = check_sheet_line (map line_of_row before) (line_of_row r)

-- the lines that a reading comes to
unfoldable pub lines_read : Reading → Answer (List SheetLine)
lines_read (stopped r) = refused r
lines_read (rows rs rest n) = full (map line_of_row rs)

-- the lines of a sheet
unfoldable pub read_sheet : Bytes → Answer (List SheetLine)
read_sheet text = elim (check_text text) [ some r ↦ refused r | none ↦ lines_read (read_table true check_sheet_row sheet_table 1 (lines text)) ]
