-- Records in flat lists of numbers, three a record: first, last, displacement. Assumes nothing.
use Rattle.std.specs.Prelude.{◌≡◌, List, map, ℕ, ◌*◌, ◌≤◌, T, length, ℤ, ◌≤ℤ◌}
use Rattle.lists.specs.Lists.{◌∈◌}
use Rattle.sorting.specs.declared.Row.{Row}
use Rattle.sorting.specs.Rows.{row_width, row_at, rows_of, rows_from}
use Rattle.model.specs.Bitmapping.{Record, Ordered}
use Rattle.model.specs.Runs.{touch}

-- ---- records in a flat list

-- the record whose numbers a row holds
abbrev pub of_row : Row → Record
of_row r = record { first = r.first; last = r.second; displacement = r.third }

-- record i of the flat list t; a number that lies past its end is 0
abbrev pub record_at : List ℤ → ℕ → Record
record_at t i = of_row (row_at t i)

-- the first n records of the flat list t
abbrev pub records_of : List ℤ → ℕ → List Record
records_of t n = map of_row (rows_of t n)

-- of the first n records of t those from record i on
abbrev pub records_from : List ℤ → ℕ → ℕ → List Record
records_from t i n = map of_row (rows_from t i n)

-- ---- normal lists

-- the list is that of some set: no record is empty, they are in order, and no two of them touch
pub record IsNormal (l : List Record) : Type 0 where
  pub full : (r : Record) → r ∈ l → r.first ≤ℤ r.last
  pub ordered : Ordered l
  pub apart : (r s : Record) → r ∈ l → s ∈ l → T (touch r s) → r ≡ s

-- n records stand in the front of the flat list t, and they are a normal list
pub record NormalList (t : List ℤ) (n : ℕ) : Type 0 where
  pub within : row_width * n ≤ length t
  pub normal : IsNormal (records_of t n)
