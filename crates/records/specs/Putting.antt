-- The steps of list_records: the list is made in the work buffer, and its records are written to the slice of structs. Assumes nothing.
use Rattle.std.specs.Prelude.{Err, Ok, Result}
use Rattle.std.specs.Prelude.{◌≡◌, List, map, ℕ, ◌*◌, ◌≤◌, ℤ, length}
use Rattle.model.specs.declared.WalkKind.{WalkKind}
use Rattle.model.specs.Limits.{record_width, max_paths}
use Rattle.model.specs.Calls.{list_answer, length_of}
use Rattle.model.specs.Answers.{written_answer}
use Rattle.sorting.specs.Rows.{row_at, rows_of}
use Rattle.sorting.specs.declared.Row.{Row}
use Rattle.records.specs.declared.Record.{Record as Stored}
use Rattle.records.specs.Promises.{work_after}
use Rattle.model.specs.declared.Reason.{Reason}

-- the struct that stores a row of three numbers
abbrev pub row_stored : Row → Stored
row_stored row = record { first = row.first; last = row.second; displacement = row.third }

-- record i of a list whose numbers stand three by three
abbrev pub record_at : List ℤ → ℕ → Stored
record_at numbers i = row_stored (row_at numbers i)

-- the first n records of a list whose numbers stand three by three
abbrev pub records_in : List ℤ → ℕ → List Stored
records_in numbers n = map row_stored (rows_of numbers n)

-- how many records an answer tells of: none where it is a refusal
abbrev pub count_of : Result ℕ Reason → ℕ
count_of (Ok n) = n
count_of (Err r) = 0

-- the list of a root and a leaf for walks of this kind was asked for, in a work buffer that held `work`, for a slice of so many records
pub record Listed (kind : WalkKind) (ns es : List ℤ) (root leaf : ℤ) (room : ℕ) (work : List ℤ) (given : Result ℕ Reason) (worked : List ℤ) : Type 0 where
  -- how many records, or a refusal
  pub answer : written_answer given ≡ length_of (list_answer kind ns es root leaf (record_width * room))
  -- every number of the work buffer, which has room for the longest list
  pub numbers : worked ≡ work_after kind ns es root leaf room work
  pub whole : length work ≡ record_width * max_paths
  -- no more records than a list can have, and than the slice has room for
  pub few : count_of given ≤ max_paths
  pub fit : count_of given ≤ room
