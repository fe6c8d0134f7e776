-- The invariant, whichever the tables: the findings that were kept, with those of the groups passed and those that are left, are kept findings and those of the row; where an
-- address is still asked for, one was where the function begins, and the pairs passed are equal.
use mathlib.Core.Path.{◌≡◌}
use mathlib.Core.Bool.{true}
use mathlib.Core.List.{List, ◌++◌}
use lib.ListN.{length}
use Rattle.model.specs.declared.WalkKind.{WalkKind}
use Rattle.model.specs.declared.WalkKind.TheVariants.{Reading, Writing}
use Rattle.model.specs.Compare.{Tables, Finding}
use Rattle.totals.specs.Kept.{KeptOf, is_asked}
use Rattle.rowpairs.specs.RowPairs.{EqualBefore, HeldRow}
use Rattle.rootrows.specs.RootRow.{row_findings, RowLinked}
use Rattle.rootrows.proofs.Passing.{pairs_left, Passed}
use Rattle.rootrows.proofs.keep_pairs.Given as goal

abbrev pub invariant-loop-group : goal.invariant-loop-group
invariant-loop-group l =
    ((t : Tables) → RowLinked t l.root_row l.links → HeldRow Reading t l.root_row l.links (is_asked l.initial.kept) l.reading → HeldRow Writing t l.root_row l.links (is_asked l.initial.kept) l.writing
    → (is_asked l.kept ≡ true → (kind : WalkKind) → EqualBefore kind t l.root_row l.links l.group)
    × ((fs : List Finding) → KeptOf fs l.initial.lines l.initial.kept → Passed (fs ++ row_findings t l.root_row) (pairs_left t l.root_row l.group) l.lines l.kept))
    × (is_asked l.kept ≡ true → is_asked l.initial.kept ≡ true)
    × (length l.lines ≡ length l.initial.lines)
