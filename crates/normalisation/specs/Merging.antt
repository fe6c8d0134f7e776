-- Normalisation in n log n: the records sorted by displacement, merged in one pass, and sorted by first. Assumes nothing.
use Rattle.std.specs.Prelude.{◌≡◌, cond, List, [], ◌∷◌, ◌++◌, map, ℕ, ◌+◌, ◌<◌, ℤ, pos, ◌≤ℤ◌, ◌<ℤ◌}
use Rattle.lists.specs.Lists.{◌∈◌}
use Rattle.sorting.specs.declared.Row.{Row}
use Rattle.sorting.specs.Rows.{row_at, rows_of, rows_from, sorted}
use Rattle.model.specs.Limits.{address_room}
use Rattle.model.specs.Bitmapping.{Record}
use Rattle.model.specs.Runs.{touch, hull}

-- ---- records as rows

-- the record as a row that is ordered by displacement, then first
abbrev pub by_displacement : Record → Row
by_displacement s = record { first = s.displacement; second = s.first; third = s.last }

-- the record of such a row
abbrev pub of_displacement : Row → Record
of_displacement r = record { first = r.second; last = r.third; displacement = r.first }

-- the record as a row that is ordered by first, then displacement
abbrev pub by_first : Record → Row
by_first s = record { first = s.first; second = s.displacement; third = s.last }

-- the record of such a row
abbrev pub of_first : Row → Record
of_first r = record { first = r.first; last = r.third; displacement = r.second }

-- the record as a row of a bitmapping list
abbrev pub as_listed : Record → Row
as_listed s = record { first = s.first; second = s.last; third = s.displacement }

-- the records whose rows, ordered by displacement, the first n rows of the flat list t are
abbrev pub displaced_of : List ℤ → ℕ → List Record
displaced_of t n = map of_displacement (rows_of t n)

-- a record that has a bit, and whose bits lie below 2^62: one more than its last bit is a number of 64 bits
pub record SmallLast (s : Record) : Type 0 where
  pub full : s.first ≤ℤ s.last
  pub high : s.last <ℤ pos address_room

-- every record of the list has a bit, and its bits lie below 2^62
abbrev pub AllSmallLast : List Record → Type 0
AllSmallLast l = (s : Record) → s ∈ l → SmallLast s

-- ---- merging

-- the current record joined with those that follow while it touches the next; the first that it does not touch is then the current one
unfoldable pub merge_into : Record → List Record → List Record
merge_into current [] = current ∷ []
merge_into current (s ∷ t) =
    let wider = merge_into (hull current s) t in
    let later = current ∷ merge_into s t in
    cond (touch current s) wider later

-- each record joined with those that follow it, while they touch
unfoldable pub merged : List Record → List Record
merged [] = []
merged (s ∷ t) = merge_into s t

-- merging the records of the first n rows of t leaves those of the first k as they are, and goes on from that of row k
pub record Apart (t : List ℤ) (n k : ℕ) : Type 0 where
  pub inside : k < n
  pub rest : merged (displaced_of t n) ≡ displaced_of t k ++ merge_into (of_displacement (row_at t k)) (map of_displacement (rows_from t (k + 1) n))

-- ---- normalisation

-- the records sorted by displacement, then first, then last
unfoldable pub sorted_by_displacement : List Record → List Record
sorted_by_displacement l = map of_displacement (sorted (map by_displacement l))

-- the records sorted by first, then displacement, then last
unfoldable pub sorted_by_first : List Record → List Record
sorted_by_first l = map of_first (sorted (map by_first l))

-- records of one displacement that touch are next to each other once sorted by displacement, so that one pass joins them
unfoldable pub fast_normal : List Record → List Record
fast_normal l = sorted_by_first (merged (sorted_by_displacement l))
