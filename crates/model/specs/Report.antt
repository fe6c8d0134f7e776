-- The report, byte for byte. Assumes nothing.
use Rattle.std.specs.Prelude.{Bool, cond, ◌&&◌, ℕ, ℤ, pos, length}
use mathlib.Core.List.{List, [], ◌∷◌, ◌++◌, map, flat_map}
use Rattle.lists.specs.Lists.{is_nil}
use Rattle.model.specs.declared.WalkKind.TheVariants.{Reading, Writing}
use Rattle.model.specs.Bytes.{Bytes, bytes, line_feed, shown, spaced}
use Rattle.model.specs.Compare.{Finding, verdict_of, Result, result_of}
use Rattle.model.specs.Refusals.{Refusal}

-- a line of numbers
unfoldable pub line_of : List ℤ → Bytes
line_of vs = spaced (map shown vs) ++ (line_feed ∷ [])

-- none of the four lists of a pair has a record
unfoldable pub no_record : Finding → Bool
no_record f = is_nil (f.spec Reading) && is_nil (f.impl Reading) && is_nil (f.spec Writing) && is_nil (f.impl Writing)

-- the lengths of the four lists: reading, then writing; of each the specification's, then the implementation's
unfoldable pub lengths_of_lists : Finding → List ℕ
lengths_of_lists f = length (f.spec Reading) ∷ length (f.impl Reading) ∷ length (f.spec Writing) ∷ length (f.impl Writing) ∷ []

-- a line for a pair with a record in any of its lists: root row, lowest leaf row of the group, verdict and list lengths; none for another
unfoldable pub finding_line : Finding → Bytes
finding_line f =
    cond (no_record f) [] (line_of (pos f.visit.root.row ∷ pos f.visit.leaf.row ∷ pos (verdict_of f) ∷ map pos (lengths_of_lists f)))

-- the line of the full result
unfoldable pub result_line : Result → Bytes
result_line r =
    line_of (pos r.verdict ∷ pos r.equal ∷ pos r.partial ∷ pos r.different ∷ r.place.root ∷ r.place.leaf ∷ r.place.address ∷ [])

-- the report: pairs in visiting order, then the result
unfoldable pub report : List Finding → Bytes
report fs =
    bytes "root leaf verdict rspec rimpl wspec wimpl\n" ++ flat_map finding_line fs ++ bytes "\nverdict equal partial different root leaf address\n" ++ result_line (result_of fs)

-- what is printed for a refusal
unfoldable pub refusal_report : Refusal → Bytes
refusal_report r = bytes "refusal table row\n" ++ line_of (pos r.number ∷ pos r.table ∷ pos r.row ∷ [])
