-- What reading the lines of a sheet gives: what is kept of them, or a refusal. Assumes nothing.
use Rattle.std.specs.Prelude.{Err, Ok, Result}
use Rattle.std.specs.Prelude.{◌≡◌, Bool, not, cond, ◌&&◌, ℕ, suc, ℤ, pos, nat_abs, take, drop, get_or}
use mathlib.Core.List.{List, [], map, flat_map}
use Rattle.std.proofs.Math.Option.{none, some}
use Rattle.integers.specs.Integers.{eq_z}
use Rattle.model.specs.Bytes.{Bytes}
use Rattle.model.specs.Answers.{refusal_of, numbered}
use Rattle.model.specs.Reader.{row_of, RowCheck, ValueLine, bad, good, judged, Reading, stopped, rows}
use Rattle.model.specs.Sheet.{SheetLine}
use Rattle.model.specs.SheetFile.{line_of_row, good_line}
use Rattle.cursor.specs.declared.Cursor.{Cursor}
use Rattle.cursor.specs.Parts.{first_line, later_lines}
use Rattle.cursor.specs.Given.{Stands}
use Rattle.columns.specs.declared.Columns.{Columns}
use Rattle.columns.specs.Given.{layout_in}
use Rattle.sides.specs.Given.{Stored}
use Rattle.sheettables.specs.Kept.{line_numbers, line_room, Kept}
use Rattle.sheetlines.specs.declared.SheetRow.{SheetRow}
use Rattle.model.specs.declared.Reason.{Reason}

-- the line that a struct of the code holds
abbrev pub line_in : SheetRow → SheetLine
line_in s = record { initiator = s.initiator; block = s.block; base = s.base; size = s.size }

-- 18 by the sizes that are known: the block has a size, and it is another
abbrev pub is_other : ℤ → ℤ → Bool
is_other known size = not (eq_z known (pos 0)) && not (eq_z known size)

-- 17, then 18, by the sizes that are known
unfoldable pub check_line_by : List ℤ → RowCheck
check_line_by sizes before r =
    let s = line_of_row r in
    cond (good_line s) (cond (is_other (get_or sizes (nat_abs s.block) (pos 0)) s.size) (some 18) none) (some 17)

-- the value line that starts at a place of the text, by the sizes that are known
abbrev pub line_at : Bytes → Cursor → Columns → List ℤ → ValueLine
line_at text c cs sizes = judged (check_line_by sizes) [] (row_of (layout_in cs) (first_line (drop c.at text)))

-- a line of the sheet, with the cursor before the next line, or why it is refused
abbrev pub ValueGiven : Bytes → Cursor → Columns → List ℤ → (Result (SheetRow × Cursor) Reason) → Type 0
ValueGiven text c cs sizes (Ok (s, d)) =
    (r : List ℤ) × (line_at text c cs sizes ≡ good r) × (line_of_row r ≡ line_in s) × Stands text (later_lines (drop c.at text)) (suc c.line) d
ValueGiven text c cs sizes (Err reason) = (number : ℕ) × (line_at text c cs sizes ≡ bad number) × (refusal_of reason ≡ numbered number 6 c.line)

-- the lines of a sheet are read: n numbers of them are kept at the front of the lent slice, and the sizes of its blocks
pub record LinesKept (reading : Reading) (before after sizes : List ℤ) (n : ℕ) : Type 0 where
  pub done : List (List ℤ)
  pub line : ℕ
  pub read : reading ≡ rows done [] line
  pub kept : Kept (map line_of_row done) (take n after) sizes
  pub stands : Stored (take line_room (flat_map line_numbers (map line_of_row done))) before after n

-- what reading the lines of a sheet gives
abbrev pub LinesGiven : Reading → List ℤ → List ℤ → List ℤ → (Result ℕ Reason) → Type 0
LinesGiven reading before after sizes (Ok n) = LinesKept reading before after sizes n
LinesGiven reading before after sizes (Err r) = reading ≡ stopped (refusal_of r)
