-- The parts at the front of what remains of a text: its first line, the first field of that line, and what lies behind them. Assumes nothing.
use Rattle.std.specs.Prelude.{Bool, false, cond, ◌||◌, List, [], ◌∷◌, ℕ, suc, eqb, ℤ, length, drop}
use Rattle.std.proofs.Math.Option.{Option, none, some}
use Rattle.model.specs.Bytes.{Bytes, line_feed, blank}
use Rattle.model.specs.Reader.{fields_of, value_of, values_of}

-- the first line, without its line feed
unfoldable pub first_line : Bytes → Bytes
first_line [] = []
first_line (c ∷ t) = cond (eqb c line_feed) [] (c ∷ first_line t)

-- the lines behind the first
unfoldable pub later_lines : Bytes → Bytes
later_lines [] = []
later_lines (c ∷ t) = cond (eqb c line_feed) t (later_lines t)

-- a space or a line feed, which end a field
unfoldable pub ends_field : ℕ → Bool
ends_field c = eqb c blank || eqb c line_feed

-- the first field of the first line
unfoldable pub first_field : Bytes → Bytes
first_field [] = []
first_field (c ∷ t) = cond (ends_field c) [] (c ∷ first_field t)

-- what lies behind the first field: nothing, or what the space or line feed begins that ends the field
unfoldable pub behind_field : Bytes → Bytes
behind_field [] = []
behind_field (c ∷ t) = cond (ends_field c) (c ∷ t) (behind_field t)

-- a space comes first
unfoldable pub blank_first : Bytes → Bool
blank_first [] = false
blank_first (c ∷ t) = eqb c blank

-- another field follows the first on its line
abbrev pub followed : Bytes → Bool
followed t = blank_first (behind_field t)

-- what lies behind the first field and the byte that ends it
abbrev pub rest_of : Bytes → Bytes
rest_of t = drop 1 (behind_field t)

-- the value of the first field, where another follows it on its line
abbrev pub inner_value : Bytes → Option ℤ
inner_value t = cond (followed t) (value_of (first_field t)) none

-- the value of the first field, where it is the last of its line
abbrev pub last_value : Bytes → Option ℤ
last_value t = cond (followed t) none (value_of (first_field t))

-- the value of the first field, where it is the last of its line, or where another follows it there
abbrev pub value_at : Bool → Bytes → Option ℤ
value_at last t = cond last (last_value t) (inner_value t)

-- what lies behind that field: the later lines, or the fields that follow it
abbrev pub rest_at : Bool → Bytes → Bytes
rest_at last t = cond last (later_lines t) (rest_of t)

-- the line on which this lies, where the field stands on line n
abbrev pub line_at : Bool → ℕ → ℕ
line_at last n = cond last (suc n) n

-- the values, where there are n
unfoldable pub exactly : ℕ → Option (List ℤ) → Option (List ℤ)
exactly n none = none
exactly n (some vs) = cond (eqb (length vs) n) (some vs) none

-- the values of the first line, where there are n
abbrev pub line_values : ℕ → Bytes → Option (List ℤ)
line_values n t = exactly n (values_of (fields_of (first_line t)))
