-- A line of the report as one number, and the report from the lines of the pairs and the full result. Assumes nothing.
use mathlib.Core.List.{List, [], ◌∷◌, ◌++◌, flat_map}
use Rattle.std.specs.Prelude.{ℕ, ◌+◌, ◌*◌, ◌/◌, ◌%◌, ◌≤◌, ◌<◌, ℤ, pos}
use Rattle.model.specs.Bytes.{Bytes, bytes}
use Rattle.model.specs.Limits.{max_pairs, max_paths, root_stride}
use Rattle.model.specs.Compare.{Result}
use Rattle.model.specs.Report.{line_of, result_line}
use Rattle.reporting.specs.declared.Lengths.{Lengths}

-- ---- a line as one number: root row, leaf row, verdict, and the lengths of the lists, for reading and then for writing those of the specification and of the
-- implementation

-- what the number without the length of a list counts for, and what the place of a pair without its verdict does
abbrev pub length_stride : ℕ
length_stride = 1025

abbrev pub verdict_stride : ℕ
verdict_stride = 4

-- place and verdict of a pair are less than this as one number
abbrev pub judged_room : ℕ
judged_room = root_stride * max_pairs * verdict_stride

-- a number with two lengths behind it
abbrev pub with_lengths : ℕ → ℕ → ℕ → ℕ
with_lengths n spec impl = (n * length_stride + spec) * length_stride + impl

-- a number without the two lengths behind it
abbrev pub without_lengths : ℕ → ℕ
without_lengths n = n / length_stride / length_stride

-- the place and the verdict of a number
abbrev pub judged_of : ℕ → ℕ
judged_of n = without_lengths (without_lengths n)

-- the seven numbers that one number stands for
unfoldable pub line_numbers : ℕ → List ℤ
line_numbers n =
    pos (judged_of n / verdict_stride / root_stride)
    ∷ pos (judged_of n / verdict_stride % root_stride)
    ∷ pos (judged_of n % verdict_stride)
    ∷ pos (without_lengths n / length_stride % length_stride)
    ∷ pos (without_lengths n % length_stride)
    ∷ pos (n / length_stride % length_stride)
    ∷ pos (n % length_stride)
    ∷ []

-- the line of a number
unfoldable pub line_of_number : ℕ → Bytes
line_of_number n = line_of (line_numbers n)

-- the lines of numbers
unfoldable pub lines_of : List ℕ → Bytes
lines_of ns = flat_map line_of_number ns

-- ---- the report

-- the numbers of the result's line: whole verdict, counts, and place of the first unequal pair
abbrev pub result_numbers : Result → List ℤ
result_numbers r =
    pos r.verdict ∷ pos r.equal ∷ pos r.partial ∷ pos r.different ∷ r.place.root ∷ r.place.leaf ∷ r.place.address ∷ []

-- an empty line, and the result's line below its names
unfoldable pub result_lines : Result → Bytes
result_lines r = bytes "\nverdict equal partial different root leaf address\n" ++ result_line r

-- the lines of the pairs below their names, then the result
unfoldable pub report_from : Bytes → Result → Bytes
report_from lines result = bytes "root leaf verdict rspec rimpl wspec wimpl\n" ++ lines ++ result_lines result

-- ---- what is small enough

-- pairs of a comparison at most
abbrev pub max_visits : ℕ
max_visits = max_pairs * max_pairs

-- rows below 1,000
pub record SmallPlace (i j : ℕ) : Type 0 where
  pub root : i < max_pairs
  pub leaf : j < max_pairs

-- lists of at most 1,024 records
pub record SmallLengths (l : Lengths) : Type 0 where
  pub spec : l.spec ≤ max_paths
  pub impl : l.implementation ≤ max_paths

-- a result that counts at most so many pairs of each verdict
pub record SmallResult (r : Result) : Type 0 where
  pub equal : r.equal ≤ max_visits
  pub partial : r.partial ≤ max_visits
  pub different : r.different ≤ max_visits
