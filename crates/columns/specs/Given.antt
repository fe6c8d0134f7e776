-- What the functions of names lines give: the columns of names. Assumes nothing.
use Rattle.std.specs.Prelude as std
use Rattle.std.specs.Prelude.{◌≡◌, Bool, true, not, cond, ◌&&◌, ◌||◌, List, [], ◌∷◌, ◌++◌, ℕ, suc, ◌+◌, ◌≤◌, ◌<◌, eqb, length, take, drop, get_or, map}
use Rattle.std.proofs.Math.Option.{none, some}
use Rattle.lists.specs.Lists.{keep}
use Rattle.model.specs.Bytes.{Bytes}
use Rattle.model.specs.MapFile.{Table, all_names}
use Rattle.model.specs.Reader.{Layout, fields_of, column_of, is_field, columns}
use Rattle.cursor.specs.declared.Cursor.{Cursor}
use Rattle.cursor.specs.Parts.{first_line, later_lines}
use Rattle.cursor.specs.Given.{Stands}
use Rattle.columns.specs.declared.Columns.{Columns}

-- names of a table at most, optional ones among them
abbrev pub max_names : ℕ
max_names = 6

-- the columns, in the order of the table's names
abbrev pub column_list : Columns → List ℕ
column_list cs = take cs.count cs.at

-- the layout of a names line with these columns
abbrev pub layout_in : Columns → Layout
layout_in cs = record { fields = cs.fields; at = column_list cs }

-- the fields of the line that starts at a place of the text
abbrev pub line_fields : Bytes → ℕ → List Bytes
line_fields text from = fields_of (first_line (drop from text))

-- the column of a name among fields, or nothing where none of them is the name
abbrev pub ColumnGiven : Bytes → List Bytes → std.Option ℕ → Type 0
ColumnGiven name fs (std.Some i) = (i ≡ column_of name fs) × (i < length fs)
ColumnGiven name fs std.None = column_of name fs ≡ length fs

-- no name is looked for yet, in a names line with n fields
pub record NoName (n : ℕ) (cs : Columns) : Type 0 where
  pub fields : cs.fields ≡ n
  pub named : cs.named ≡ 0
  pub count : cs.count ≡ 0

-- n more names can be looked for in the line that starts at a place of the text
pub record Seeking (text : Bytes) (from n : ℕ) (cs : Columns) : Type 0 where
  pub within : from ≤ length text
  pub fields : cs.fields ≡ length (line_fields text from)
  pub few : cs.named ≤ cs.count
  pub room : cs.count + n ≤ max_names

-- the columns with that of one name more
pub record NameGiven (name : Bytes) (fs : List Bytes) (cs r : Columns) : Type 0 where
  pub fields : r.fields ≡ cs.fields
  pub named : r.named ≡ cond (is_field fs name) (suc cs.named) cs.named
  pub count : r.count ≡ suc cs.count
  pub columns : column_list r ≡ column_list cs ++ (column_of name fs ∷ [])

-- the columns with those of more names
pub record NamesGiven (names fs : List Bytes) (cs r : Columns) : Type 0 where
  pub fields : r.fields ≡ cs.fields
  pub named : r.named ≡ cs.named + length (keep (is_field fs) names)
  pub count : r.count ≡ cs.count + length names
  pub columns : column_list r ≡ column_list cs ++ map (λ n. column_of n fs) names

-- a table of these names, which a names line must have, and of these, which it may have
abbrev pub table_with : List Bytes → List Bytes → Table
table_with names optional = record { names = names; optional = optional; conditions = [] }

-- the columns of a table's names in a names line of the table
pub record LaidOut (t : Table) (line : Bytes) (cs : Columns) : Type 0 where
  pub count : cs.count ≡ length (all_names t)
  pub names : columns t line ≡ some (layout_in cs)

-- what reading the line at the cursor as a names line of a table gives: its columns, with the cursor behind it, or nothing where it is none
abbrev pub NamesLineGiven : Table → Bytes → Cursor → std.Option (Columns × Cursor) → Type 0
NamesLineGiven t text from (std.Some (cs, next)) =
    LaidOut t (first_line (drop from.at text)) cs × Stands text (later_lines (drop from.at text)) (suc from.line) next
NamesLineGiven t text from std.None = columns t (first_line (drop from.at text)) ≡ none

-- columns of a names line: each is that of a field, or behind the last
pub record GoodColumns (cs : Columns) : Type 0 where
  pub several : 2 ≤ cs.count
  pub few : cs.count ≤ max_names
  pub some_field : 1 ≤ cs.fields
  pub few_fields : cs.fields ≤ max_names
  pub whole : length (column_list cs) ≡ cs.count
  pub within : (j : ℕ) → j < cs.count → get_or cs.at j 0 ≤ cs.fields
