-- The map file: its tables, its lines, and the conditions 12 to 14 by the file rules. No reader. Assumes nothing.
use Rattle.std.specs.Prelude.{◌≡◌, cond, ◌≢◌, ◌⊎◌, List, [], ◌∷◌, ◌++◌, map, ℕ, suc, ◌<◌, ◌≤◌, ◌^◌, eqb, ℤ, pos, nat_abs, length}
use Rattle.lists.specs.Lists.{◌∈◌, Distinct}
use Rattle.model.specs.Limits.{max_text, max_digits}
use Rattle.model.specs.Bytes.{Bytes, bytes, line_feed, blank, dash, shown, spaced}
use Rattle.model.specs.Refusals.{Condition, refuse, ◌next◌}

-- a row of a table of the file gives each name a value
abbrev pub Values : Type 0
Values = Bytes → ℤ

-- a condition of a row beyond its values: the number of the refusal, and when it holds, by the rows before, the nearest first, and the row
pub record RowCondition : Type 1 where
  pub number : ℕ
  pub holds : List Values → Values → Type 0

-- a table of the file: the names that its names line must have, the optional names, which it may have or lack, and the conditions of a row, in their order
pub record Table : Type 1 where
  pub names : List Bytes
  pub optional : List Bytes
  pub conditions : List RowCondition

-- its names, then the optional ones
abbrev pub all_names : Table → List Bytes
all_names t = t.names ++ t.optional

-- 14: the value under this name, side or role, is neither 0 nor 1
abbrev pub not_zero_or_one : Bytes → RowCondition
not_zero_or_one key = record { number = 14; holds = λ before value. (value key ≢ pos 0) × (value key ≢ pos 1) }

-- the three tables
unfoldable pub node_table : Table
node_table =
    record { names = bytes "side" ∷ bytes "kind" ∷ bytes "base" ∷ bytes "range" ∷ bytes "unit" ∷ []; optional = bytes "access" ∷ []; conditions = not_zero_or_one (bytes "side") ∷ [] }

unfoldable pub edge_table : Table
edge_table = record { names = bytes "side" ∷ bytes "from" ∷ bytes "to" ∷ bytes "offset" ∷ []; optional = []; conditions = not_zero_or_one (bytes "side") ∷ [] }

unfoldable pub pair_table : Table
pair_table = record { names = bytes "role" ∷ bytes "spec" ∷ bytes "impl" ∷ []; optional = bytes "at" ∷ []; conditions = not_zero_or_one (bytes "role") ∷ [] }

-- a byte in front of the first line
unfoldable pub onto : ℕ → List Bytes → List Bytes
onto c [] = (c ∷ []) ∷ []
onto c (l ∷ ls) = (c ∷ l) ∷ ls

-- the lines of a text, each without its line feed
unfoldable pub lines : Bytes → List Bytes
lines [] = []
lines (c ∷ t) = let ls = lines t in cond (eqb c line_feed) ([] ∷ ls) (onto c ls)

-- how many line feeds a text has
unfoldable pub feeds : Bytes → ℕ
feeds [] = 0
feeds (c ∷ t) = let n = feeds t in cond (eqb c line_feed) (suc n) n

-- ---- the file rules of a line

-- the fields are all of the table's names, and of the optional ones any, in any order, each once
pub record GoodFields (t : Table) (fields : List Bytes) : Type 0 where
  pub once : Distinct fields
  pub each : (n : Bytes) → n ∈ t.names → n ∈ fields
  pub known : (n : Bytes) → n ∈ fields → (n ∈ t.names) ⊎ (n ∈ t.optional)

-- a names line of the table, and its fields
pub record NamesLine (t : Table) (fields : List Bytes) (line : Bytes) : Type 0 where
  pub writes : line ≡ spaced fields
  pub named : GoodFields t fields

-- a row that can be written below these fields: values of 1 to 18 digits, and 0 under each optional name that is not among the fields
pub record GoodRow (t : Table) (fields : List Bytes) (value : Values) : Type 0 where
  pub short : (n : Bytes) → n ∈ fields → nat_abs (value n) < 10 ^ max_digits
  pub absent : (n : Bytes) → n ∈ t.optional → (n ∈ fields → ⊥) → value n ≡ pos 0

-- the line writes the row: a value for each field of the names line, in that order
pub record RowWritten (t : Table) (fields : List Bytes) (line : Bytes) (value : Values) : Type 0 where
  pub good : GoodRow t fields value
  pub writes : line ≡ spaced (map (λ n. shown (value n)) fields)

-- the lines write the rows, one each
pub data RowsWritten (t : Table) (fields : List Bytes) : List Bytes → List Values → Type 0 where
  no_line : RowsWritten t fields [] []
  and_line : {l : Bytes} {ls : List Bytes} {v : Values} {vs : List Values} → RowWritten t fields l v → RowsWritten t fields ls vs → RowsWritten t fields (l ∷ ls) (v ∷ vs)

-- ---- 12: over the whole text

-- a–z, 0–9, minus, space, line feed
abbrev pub Allowed : ℕ → Type 0
Allowed c = ((97 ≤ c) × (c ≤ 122)) ⊎ ((48 ≤ c) × (c ≤ 57)) ⊎ (c ≡ dash) ⊎ (c ≡ blank) ⊎ (c ≡ line_feed)

-- a byte that is not allowed, at its line; the first byte stands on line n
unfoldable pub byte_conditions : ℕ → Bytes → List Condition
byte_conditions n [] = []
byte_conditions n (c ∷ t) = refuse 12 6 n (Allowed c → ⊥) next byte_conditions (cond (eqb c line_feed) (suc n) n) t

-- the last line has no line feed
pub record BrokenOff (text : Bytes) : Type 0 where
  pub front : Bytes
  pub last : ℕ
  pub ends : text ≡ front ++ (last ∷ [])
  pub no_feed : last ≢ line_feed

-- length (line 0), bytes, last line
unfoldable pub whole_text_conditions : Bytes → List Condition
whole_text_conditions text =
    refuse 12 6 0 (max_text < length text) next byte_conditions 1 text next refuse 12 6 (suc (feeds text)) (BrokenOff text)

-- ---- 13, 14 and the conditions of a row: line by line

-- what is due on a line: the names of a table, or values below a names line and other value lines, the nearest of these first; then the tables that follow
pub data Due : Type 1 where
  names : Table → List Table → Due
  values : Table → Bytes → List Bytes → List Table → Due

-- 13: the names line is wrong
abbrev pub WrongNames : Table → Bytes → Type 0
WrongNames t line = (fields : List Bytes) → NamesLine t fields line → ⊥

-- 14: the value line breaks the file rules
abbrev pub WrongValues : Table → Bytes → Bytes → Type 0
WrongValues t names_line line = (fields : List Bytes) → NamesLine t fields names_line → (value : Values) → RowWritten t fields line value → ⊥

-- the condition holds of the row that the line writes, after the rows that the lines before it write
pub record LineMeets (t : Table) (names_line : Bytes) (before : List Bytes) (line : Bytes) (a : RowCondition) : Type 0 where
  pub fields : List Bytes
  pub named : NamesLine t fields names_line
  pub earlier : List Values
  pub write_earlier : RowsWritten t fields before earlier
  pub row : Values
  pub writes_row : RowWritten t fields line row
  pub holds : a.holds earlier row

-- conditions of the row on line n
unfoldable pub further_conditions : ℕ → Table → Bytes → List Bytes → Bytes → List RowCondition → List Condition
further_conditions n t h before l [] = []
further_conditions n t h before l (a ∷ more) = refuse a.number 6 n (LineMeets t h before l a) next further_conditions n t h before l more

-- value line n: 14, then the conditions of its row
unfoldable pub value_conditions : ℕ → Table → Bytes → List Bytes → Bytes → List Condition
value_conditions n t h before l = refuse 14 6 n (WrongValues t h l) next further_conditions n t h before l t.conditions

-- the lines from line n on. One empty line ends a table that another follows; a file that ends too soon gives 13 at the line after its last
unfoldable pub line_conditions : ℕ → Due → List Bytes → List Condition
line_conditions n (names t ts) [] = refuse 13 6 n (Unit {0})
line_conditions n (names t ts) (l ∷ ls) = refuse 13 6 n (WrongNames t l) next line_conditions (suc n) (values t l [] ts) ls
line_conditions n (values t h before []) [] = []
line_conditions n (values t h before []) (l ∷ ls) = value_conditions n t h before l next line_conditions (suc n) (values t h (l ∷ before) []) ls
line_conditions n (values t h before (u ∷ us)) [] = refuse 13 6 n (Unit {0})
line_conditions n (values t h before (u ∷ us)) ([] ∷ ls) = line_conditions (suc n) (names u us) ls
line_conditions n (values t h before (u ∷ us)) ((c ∷ l) ∷ ls) =
    value_conditions n t h before (c ∷ l) next line_conditions (suc n) (values t h ((c ∷ l) ∷ before) (u ∷ us)) ls

-- text: 12 as listed over the whole text, then line by line
unfoldable pub file_conditions : Bytes → List Condition
file_conditions text = whole_text_conditions text next line_conditions 1 (names node_table (edge_table ∷ pair_table ∷ [])) (lines text)
