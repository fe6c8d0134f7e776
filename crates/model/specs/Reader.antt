-- The reader of map files, computed: the six tables of a text, or its first refusal. Assumes nothing.
use Rattle.std.specs.Prelude.{Bool, true, false, not, cond, ◌&&◌, ◌||◌, List, [], ◌∷◌, ◌++◌, map, ℕ, zero, suc, ◌+◌, ◌-◌, ◌*◌, leb, ltb, eqb, ℤ, pos, negsuc, length, get_or}
use Rattle.std.proofs.Math.Option
use Rattle.std.proofs.Math.Option.{Option, none, some}
use Rattle.integers.specs.Integers.{eq_z}
use Rattle.lists.specs.Lists.{keep, any, all, is_nil}
use Rattle.model.specs.Limits.{max_text, max_digits}
use Rattle.model.specs.Bytes.{Bytes, line_feed, blank, dash, same}
use Rattle.model.specs.MapFile.{Table, all_names, node_table, edge_table, pair_table, onto, lines, feeds}
use Rattle.model.specs.Compare.{Tables}
use Rattle.model.specs.Refusals.{Refusal}
use Rattle.model.specs.Checks.{when, ◌then◌}
use Rattle.model.specs.Calls.{Answer, refused, full}

-- ---- 12: over the whole text

-- a–z, 0–9, minus, space, line feed
unfoldable pub allowed : ℕ → Bool
allowed c = (leb 97 c && leb c 122) || (leb 48 c && leb c 57) || eqb c dash || eqb c blank || eqb c line_feed

-- the first byte that is not allowed, at its line; the first byte stands on line n
unfoldable pub check_bytes : ℕ → Bytes → Option Refusal
check_bytes n [] = none
check_bytes n (c ∷ t) = let later = check_bytes (cond (eqb c line_feed) (suc n) n) t in when (not (allowed c)) 12 6 n then later

-- the last byte is no line feed
unfoldable pub broken_off : Bytes → Bool
broken_off [] = false
broken_off (c ∷ []) = not (eqb c line_feed)
broken_off (c ∷ d ∷ t) = broken_off (d ∷ t)

-- length, then bytes, then the last line
unfoldable pub check_text : Bytes → Option Refusal
check_text text = when (ltb max_text (length text)) 12 6 0 then check_bytes 1 text then when (broken_off text) 12 6 (suc (feeds text))

-- ---- fields and values

-- the fields of a line: what its spaces part
unfoldable pub fields_of : Bytes → List Bytes
fields_of [] = [] ∷ []
fields_of (c ∷ t) = let fs = fields_of t in cond (eqb c blank) ([] ∷ fs) (onto c fs)

-- 0–9
unfoldable pub is_digit : ℕ → Bool
is_digit c = leb 48 c && leb c 57

-- the number that the digits write, after digits that write v
unfoldable pub numeral : ℕ → Bytes → ℕ
numeral v [] = v
numeral v (c ∷ t) = numeral (v * 10 + (c - 48)) t

-- 1 to 18 digits, no leading zero
unfoldable pub magnitude : Bytes → Option ℕ
magnitude [] = none
magnitude (c ∷ t) =
    cond (all is_digit (c ∷ t) && leb (length (c ∷ t)) max_digits && (not (eqb c 48) || is_nil t)) (some (numeral 0 (c ∷ t))) none

-- behind a minus, and not 0
unfoldable pub negative : Option ℕ → Option ℤ
negative none = none
negative (some zero) = none
negative (some (suc n)) = some (negsuc n)

-- the number that a field writes
unfoldable pub value_of : Bytes → Option ℤ
value_of [] = none
value_of (c ∷ t) = cond (eqb c dash) (negative (magnitude t)) (Option.map pos (magnitude (c ∷ t)))

-- an element before the rest, where both are there
unfoldable pub cons_option : {A : Type 0} → Option A → Option (List A) → Option (List A)
cons_option none r = none
cons_option (some x) none = none
cons_option (some x) (some xs) = some (x ∷ xs)

-- the values of all fields
unfoldable pub values_of : List Bytes → Option (List ℤ)
values_of [] = some []
values_of (f ∷ fs) = cons_option (value_of f) (values_of fs)

-- ---- lines

-- where a names line has the names of a table: how many fields it has, and the column of each name, then of each optional name
pub record Layout : Type 0 where
  pub fields : ℕ
  pub at : List ℕ

-- the column of a name among the fields; as many as there are fields, where none is the name
unfoldable pub column_of : Bytes → List Bytes → ℕ
column_of name [] = 0
column_of name (f ∷ fs) = let later = column_of name fs in cond (same name f) 0 (suc later)

-- one of the fields is the name
unfoldable pub is_field : List Bytes → Bytes → Bool
is_field fs name = any (same name) fs

-- the columns of all names of a table among the fields
unfoldable pub layout_of : Table → List Bytes → Layout
layout_of t fs = record { fields = length fs; at = map (λ n. column_of n fs) (all_names t) }

-- the fields have all names of the table, and there are as many as names, optional or not, among them: so each is a name, and stands once
unfoldable pub good_fields : Table → List Bytes → Bool
good_fields t fs = all (is_field fs) t.names && eqb (length fs) (length (keep (is_field fs) (all_names t)))

-- the columns of all names of a table, if the line is a names line of it
unfoldable pub columns : Table → Bytes → Option Layout
columns t line = let fs = fields_of line in cond (good_fields t fs) (some (layout_of t fs)) none

-- the values at the columns, where there are as many values as the names line has fields; 0 behind them
unfoldable pub arranged : Layout → Option (List ℤ) → Option (List ℤ)
arranged layout none = none
arranged layout (some vs) = cond (eqb (length vs) layout.fields) (some (map (λ c. get_or vs c (pos 0)) layout.at)) none

-- the row of a value line, in the order of the table's names
unfoldable pub row_of : Layout → Bytes → Option (List ℤ)
row_of layout line = arranged layout (values_of (fields_of line))

-- ---- the conditions of a row

-- the check of a row: by the rows before, the nearest first, and the row, the number of the refusal, if one is given
abbrev pub RowCheck : Type 0
RowCheck = List (List ℤ) → List ℤ → Option ℕ

-- 14 where the first number, side or role, is neither 0 nor 1
unfoldable pub check_side_or_role : RowCheck
check_side_or_role before [] = none
check_side_or_role before (k ∷ r) = cond (eq_z k (pos 0) || eq_z k (pos 1)) none (some 14)

-- a value line: the number of its refusal, or its row
pub data ValueLine : Type 0 where
  bad : ℕ → ValueLine
  good : List ℤ → ValueLine

-- 14 where it gives no row, then the check of its row
unfoldable pub judged : RowCheck → List (List ℤ) → Option (List ℤ) → ValueLine
judged check before none = bad 14
judged check before (some r) = elim (check before r) [ none ↦ good r | some number ↦ bad number ]

-- ---- tables

-- what reading a table comes to: a refusal, or its rows, the lines that are left and the number of the first of them
pub data Reading : Type 0 where
  stopped : Refusal → Reading
  rows : List (List ℤ) → List Bytes → ℕ → Reading

-- a row before what reading the lines after it comes to
unfoldable pub with_row : List ℤ → Reading → Reading
with_row r (stopped f) = stopped f
with_row r (rows rs rest n) = rows (r ∷ rs) rest n

-- a refusal of the text at a line
unfoldable pub stop : ℕ → ℕ → Reading
stop number line = stopped (record { number = number; table = 6; row = line })

-- a value line, line n: its refusal, or its row before what reading the lines after it comes to
unfoldable pub with_line : ℕ → ValueLine → (List ℤ → Reading) → Reading
with_line n (bad number) later = stop number n
with_line n (good r) later = with_row r (later r)

-- the value lines from line n on, after these rows, the nearest first; the last table ends with the text, another with an empty line
unfoldable pub read_values : Bool → RowCheck → Layout → ℕ → List (List ℤ) → List Bytes → Reading
read_values last check layout n before [] = cond last (rows [] [] n) (stop 13 n)
read_values last check layout n before (l ∷ ls) =
    elim (is_nil l && not last) [
      | true ↦ rows [] ls (suc n)
      | false ↦ with_line n (judged check before (row_of layout l)) (λ r. read_values last check layout (suc n) (r ∷ before) ls)
    ]

-- a table from its names line on, which is line n
unfoldable pub read_table : Bool → RowCheck → Table → ℕ → List Bytes → Reading
read_table last check t n [] = stop 13 n
read_table last check t n (l ∷ ls) = elim (columns t l) [ none ↦ stop 13 n | some layout ↦ read_values last check layout (suc n) [] ls ]

-- the rows of one side or role, without that number, one after the other: rows count per side or role
unfoldable pub rows_with : ℤ → List (List ℤ) → List ℤ
rows_with k [] = []
rows_with k ([] ∷ rs) = rows_with k rs
rows_with k ((x ∷ r) ∷ rs) = cond (eq_z x k) (r ++ rows_with k rs) (rows_with k rs)

-- side 0 is the specification, 1 the implementation; role 0 root, 1 leaf
unfoldable pub tables_of : List (List ℤ) → List (List ℤ) → List (List ℤ) → Tables
tables_of ns es ps =
    record { spec_nodes = rows_with (pos 0) ns; spec_edges = rows_with (pos 0) es; impl_nodes = rows_with (pos 1) ns; impl_edges = rows_with (pos 1) es; root_pairs = rows_with (pos 0) ps; leaf_pairs = rows_with (pos 1) ps }

-- the third table read, after the first and the second; the second, after the first; the first
unfoldable pub read_third : List (List ℤ) → List (List ℤ) → Reading → Answer Tables
read_third ns es (stopped r) = refused r
read_third ns es (rows ps rest n) = full (tables_of ns es ps)

unfoldable pub read_second : List (List ℤ) → Reading → Answer Tables
read_second ns (stopped r) = refused r
read_second ns (rows es rest n) = read_third ns es (read_table true check_side_or_role pair_table n rest)

unfoldable pub read_first : Reading → Answer Tables
read_first (stopped r) = refused r
read_first (rows ns rest n) = read_second ns (read_table false check_side_or_role edge_table n rest)

-- the tables of a map file
unfoldable pub read_map : Bytes → Answer Tables
read_map text = elim (check_text text) [ some r ↦ refused r | none ↦ read_first (read_table false check_side_or_role node_table 1 (lines text)) ]
