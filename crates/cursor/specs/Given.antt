-- What the cursor and the functions of fields and value lines give. Assumes nothing.
use Rattle.std.specs.Prelude as std
use Rattle.std.specs.Prelude.{◌≡◌, List, ℕ, suc, ◌+◌, ◌≤◌, ℤ, length, take, drop}
use Rattle.std.proofs.Math.Option.{Option, none, some}
use Rattle.model.specs.Bytes.{Bytes}
use Rattle.model.specs.Reader.{value_of}
use Rattle.values.specs.Given.{signed_value}
use Rattle.cursor.specs.declared.Field.{Field}
use Rattle.cursor.specs.declared.Cursor.{Cursor}
use Rattle.cursor.specs.Parts.{later_lines, first_field, followed, line_values}

-- the field that starts at a place of the text: where it ends, whether another follows it on its line, and its value
pub record FieldGiven (text : Bytes) (at : ℕ) (f : Field) : Type 0 where
  pub ends : f.end ≡ at + length (first_field (drop at text))
  pub more : f.more ≡ followed (drop at text)
  pub value : signed_value f.value ≡ value_of (first_field (drop at text))

-- the cursor stands in the text, and there are no more lines before it than bytes
pub record InText (text : Bytes) (c : Cursor) : Type 0 where
  pub within : c.at ≤ length text
  pub low : c.line ≤ c.at + 1

-- the cursor stands in the text before rest, on line n
pub record Stands (text rest : Bytes) (n : ℕ) (c : Cursor) : Type 0 where
  pub within : c.at ≤ length text
  pub before : drop c.at text ≡ rest
  pub line : c.line ≡ n

-- a value that is read, with the cursor before rest on line n
abbrev pub NumGiven : Bytes → Option ℤ → Bytes → ℕ → std.Option (ℤ × Cursor) → Type 0
NumGiven text value rest n (std.Some (v, c)) = (value ≡ some v) × Stands text rest n c
NumGiven text value rest n std.None = value ≡ none

-- the values of a line, `width` of them, at the front of the row, with the cursor before the next line
abbrev pub LineGiven : Bytes → Cursor → ℕ → List ℤ → std.Option Cursor → Type 0
LineGiven text c width row (std.Some d) =
    (line_values width (drop c.at text) ≡ some (take width row)) × Stands text (later_lines (drop c.at text)) (suc c.line) d
LineGiven text c width row std.None = line_values width (drop c.at text) ≡ none
