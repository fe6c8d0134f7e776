-- What the functions of value lines give: rows of side or role 0 and 1, in two slices. Assumes nothing.
use Rattle.std.specs.Prelude.{Err, Ok, Option, None, Some, Result}
use Rattle.std.specs.Prelude.{◌≡◌, cond, List, [], ◌∷◌, ◌++◌, map, ℕ, suc, ◌+◌, ◌-◌, ◌*◌, leb, ℤ, pos, length, take, drop, get_or}
use Rattle.model.specs.Bytes.{Bytes}
use Rattle.model.specs.MapFile.{lines}
use Rattle.model.specs.Answers.{refusal_of}
use Rattle.model.specs.Reader.{row_of, check_side_or_role, ValueLine, bad, good, judged, Reading, stopped, rows, rows_with}
use Rattle.cursor.specs.declared.Cursor.{Cursor}
use Rattle.cursor.specs.Parts.{first_line, later_lines}
use Rattle.cursor.specs.Given.{InText, Stands}
use Rattle.columns.specs.declared.Columns.{Columns}
use Rattle.columns.specs.Given.{max_names, column_list, layout_in}
use Rattle.sides.specs.declared.Side.{Side}
use Rattle.sides.specs.declared.Side.TheVariants.{First, Second}
use Rattle.model.specs.declared.Reason.{Reason}
use Rattle.sides.specs.declared.Counts.{Counts}

-- numbers of a row at most, and a place behind them
abbrev pub row_room : ℕ
row_room = suc max_names

-- behind the values of a line the row has 0
abbrev pub Clear : Columns → List ℤ → Type 0
Clear cs row = get_or row cs.fields (pos 0) ≡ pos 0

-- the room of a table is that of whole rows, without their side or role
abbrev pub Roomy : Columns → ℕ → Type 0
Roomy cs room = (most : ℕ) × (room ≡ (cs.count - 1) * most)

-- the numbers of a row at these columns
abbrev pub numbers_at : List ℕ → List ℤ → List ℤ
numbers_at cs row = map (λ c. get_or row c (pos 0)) cs

-- the numbers of a row behind its side or role
abbrev pub row_numbers : Columns → List ℤ → List ℤ
row_numbers cs row = numbers_at (drop 1 (column_list cs)) row

-- the value line that starts at a place of the text. Its check does not look at the rows before
abbrev pub line_at : Bytes → Cursor → Columns → ValueLine
line_at text c cs = judged check_side_or_role [] (row_of (layout_in cs) (first_line (drop c.at text)))

-- the number that a side or role is written as
abbrev pub side_number : Side → ℤ
side_number First = pos 0
side_number Second = pos 1

-- a row of side or role 0 or 1, with the cursor before the next line
abbrev pub RowGiven : Bytes → Cursor → Columns → List ℤ → Option (Side × Cursor) → Type 0
RowGiven text c cs row (Some (side, d)) =
    (line_at text c cs ≡ good (side_number side ∷ row_numbers cs row)) × Stands text (later_lines (drop c.at text)) (suc c.line) d
RowGiven text c cs row None = line_at text c cs ≡ bad 14

-- numbers appended behind n numbers of a table, where the room lasts for them
pub record Appended (room : ℕ) (numbers before after : List ℤ) (n m : ℕ) : Type 0 where
  pub count : m ≡ cond (leb (n + length numbers) room) (n + length numbers) n
  pub stands : after ≡ cond (leb (n + length numbers) room) (take n before ++ numbers ++ drop (n + length numbers) before) before

-- the numbers stand at the front of the lent slice, which keeps what lies behind them, and n is how many they are
pub record Stored (numbers before after : List ℤ) (n : ℕ) : Type 0 where
  pub count : n ≡ length numbers
  pub stands : after ≡ numbers ++ drop n before

-- the rows of a table are read: those of side or role 0 and of 1 stand in the two slices, and the cursor stands behind the table
pub record RowsRead (reading : Reading) (text : Bytes) (room : ℕ) (before₀ after₀ before₁ after₁ : List ℤ) (c : Cursor) (n m : ℕ) : Type 0 where
  pub done : List (List ℤ)
  pub read : reading ≡ rows done (lines (drop c.at text)) c.line
  pub in_text : InText text c
  pub first : Stored (take room (rows_with (pos 0) done)) before₀ after₀ n
  pub second : Stored (take room (rows_with (pos 1) done)) before₁ after₁ m

-- what reading the rows of a table gives
abbrev pub RowsGiven : Reading → Bytes → ℕ → List ℤ → List ℤ → List ℤ → List ℤ → (Result (Cursor × Counts) Reason) → Type 0
RowsGiven reading text room before₀ after₀ before₁ after₁ (Ok (c, k)) =
    RowsRead reading text room before₀ after₀ before₁ after₁ c k.first k.second
RowsGiven reading text room before₀ after₀ before₁ after₁ (Err r) = reading ≡ stopped (refusal_of r)
