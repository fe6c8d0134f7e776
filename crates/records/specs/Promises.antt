-- What the call list_records promises, whatever it is given. Assumes nothing.
use Rattle.std.specs.Prelude.{Result}
use Rattle.std.specs.Prelude.{◌≡◌, cond, List, ◌++◌, map, ℕ, ◌*◌, ltb, ℤ, length, take, drop}
use Rattle.model.specs.declared.WalkKind.{WalkKind}
use Rattle.model.specs.Limits.{record_width, max_paths}
use Rattle.model.specs.Graph.{Graph, graph_of}
use Rattle.model.specs.Bitmapping.{Record, IsBitmappingList}
use Rattle.model.specs.Calls.{full, list_after, records_gives, records_after}
use Rattle.model.specs.Answers.{written_answer}
use Rattle.records.specs.declared.Record.{Record as Stored}
use Rattle.model.specs.declared.Reason.{Reason}

-- the record that a struct stores
abbrev pub stored_record : Stored → Record
stored_record s = record { first = s.first; last = s.last; displacement = s.displacement }

-- the records that a slice of structs stores
unfoldable pub stored_records : List Stored → List Record
stored_records = map stored_record

-- how many numbers of the work buffer are lent for a slice of so many records: three a record, for at most as many records as a list can have
unfoldable pub lent_numbers : ℕ → ℕ
lent_numbers room = record_width * cond (ltb room max_paths) room max_paths

-- what the work buffer holds afterwards: in front what list for walks of this kind leaves in the numbers that it is lent, and past them what it held
unfoldable pub work_after : WalkKind → List ℤ → List ℤ → ℤ → ℤ → ℕ → List ℤ → List ℤ
work_after kind ns es r l room work = list_after kind ns es r l (take (lent_numbers room) work) ++ drop (lent_numbers room) work

-- n records stand in front of a slice that held `old`, and they are the bitmapping list of root and leaf for walks of this kind: the list of the reached set
pub record RecordsStand (kind : WalkKind) (g : Graph) (root leaf : ℤ) (n : ℕ) (old new : List Record) : Type 0 where
  pub records : List Record
  pub count : length records ≡ n
  pub stands : new ≡ records ++ drop n old
  pub reached : IsBitmappingList kind g root leaf records

-- list_records, for walks of this kind, of a root and a leaf of the graph of two tables, into a slice that held `old`, with a work buffer that held `work`: what it
-- returns, and what the slice and the work buffer then hold
pub record RecordsPromise (kind : WalkKind) (ns es : List ℤ) (root leaf : ℤ) (old : List Stored) (work : List ℤ) (given : Result ℕ Reason) (new : List Stored)
    (worked : List ℤ) : Type 0 where
  -- how many records, or a refusal
  pub answer : written_answer given ≡ records_gives kind ns es root leaf (stored_records old)
  -- untouched on a refusal, else the records, and past them what it held
  pub buffer : stored_records new ≡ records_after kind ns es root leaf (stored_records old)
  -- every number of the work buffer
  pub numbers : worked ≡ work_after kind ns es root leaf (length old) work
  -- where it gives n records, what stands in the slice is the bitmapping list: exactly what is reached
  pub reached : (n : ℕ) → written_answer given ≡ full n → RecordsStand kind (graph_of ns es) root leaf n (stored_records old) (stored_records new)
