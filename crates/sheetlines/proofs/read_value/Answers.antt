-- The values of the line, then 17, then 18.
use mathlib.Core.Path.{◌≡◌, refl, sym, ◌∙◌}
use mathlib.Core.Bool.{true}
use mathlib.Core.List.{List, []}
use mathlib.Core.Option.{some}
use Prim.Native.Nat.{◌<◌}
use native.Mathlib.Omega.{arith}
use borrow.Author.Rules.{rules}
use lib.IntN.{ℤ, pos, nat_abs}
use lib.ListN.{drop, get_or}
use mir.Syntax.{w64}
use mir.Val.{SFits, to_z, of_z}
use mir.Facts.{to_z-of_z}
use Rattle.model.specs.Limits.{sheet_numbers}
use Rattle.model.specs.Reader.{row_of}
use Rattle.model.specs.SheetFile.{good_line}
use Rattle.filerules.proofs.RowChecks.{judged-none, judged-good, judged-bad}
use Rattle.cursor.specs.Parts.{first_line}
use Rattle.columns.specs.Given.{column_list, layout_in}
use Rattle.sides.specs.Given.{Clear, numbers_at}
use Rattle.sides.proofs.RowLines.{clear_kept, row-broken, row-numbers}
use Rattle.tables.proofs.Cells.{index_fits}
use Rattle.sheetlines.specs.Given.{line_in, is_other, check_line_by}
use Rattle.sheetlines.proofs.Judging.{block_index, check-range, check-other, check-taken}
use Rattle.sheetlines.proofs.read_value.Goals.{After-is_other, After-line_of-s, After-read_line, Else-not-good_line}
use Rattle.sheetlines.proofs.read_value.Goals as goal

-- behind the values the row has 0 as before
clear : (k : After-read_line) → Clear k.args.cs k.read_line.new.row
clear k = clear_kept k.args.cs k.args.row.now k.read_line.new.row k.requires.3 k.read_line.ensures.rest

pub returns-in_default-clause-line : goal.returns-in_default-clause-line
returns-in_default-clause-line c =
    let broken = row-broken c.requires.1 (drop c.args.from.at c.args.text.now) c.in_default.ensures.line in
    (14, judged-none (check_line_by c.args.sizes.now) [] broken, refl)

-- its row of numbers
abbrev numbers : After-line_of-s → List ℤ
numbers g = numbers_at (column_list g.args.cs) g.read_line.new.row

row_given : (g : After-line_of-s) → let s = g.args in
    row_of (layout_in s.cs) (first_line (drop s.from.at s.text.now)) ≡ some (numbers g)
row_given g =
    row-numbers g.requires.1 (drop g.args.from.at g.args.text.now) g.read_line.new.row (omega arith) (clear (goal.at.After-line_of-s g).After-read_line) g.in-Some.ensures.line.0

pub returns-then-not-good_line-clause-line : goal.returns-then-not-good_line-clause-line
returns-then-not-good_line-clause-line c =
    let k = (goal.at.returns-then-not-good_line-clause-line c).After-line_of-s in
    let sizes = c.args.sizes.now in
    (17, judged-bad (check_line_by sizes) [] (row_given k) (check-range sizes (numbers k) c.line_of-s.ensures (sym c.good_line.ensures ∙ c.if-not-good_line.true)), refl)

-- ---- a line in its range

-- 17 is not for it
good-told : (e : Else-not-good_line) → good_line (line_in e.line_of-s.result) ≡ true
good-told e = sym e.good_line.ensures ∙ e.if-not-good_line.false

block-fits : (e : Else-not-good_line) → SFits w64 e.line_of-s.result.block
block-fits e = search rules

pub overflow_cast-s : goal.overflow_cast-s
overflow_cast-s c =
    let e = (goal.at.overflow_cast-s c).Else-not-good_line in
    index_fits (block-fits e) (block_index (line_in c.line_of-s.result) (good-told e)).0

-- the place of the block among the sizes
block-below : (e : Else-not-good_line) → nat_abs (to_z w64 (of_z w64 e.line_of-s.result.block)) < sheet_numbers
block-below e = simp (to_z-of_z, block-fits e) (block_index (line_in e.line_of-s.result) (good-told e)).1

pub offset_bounds-sizes-s : goal.offset_bounds-sizes-s
offset_bounds-sizes-s c = omega (arith, block-below (goal.at.offset_bounds-sizes-s c).Else-not-good_line)

pub bounds-sizes-s : goal.bounds-sizes-s
bounds-sizes-s c = omega (arith, block-below (goal.at.bounds-sizes-s c).Else-not-good_line)

-- what is told of 18
other-told : (o : After-is_other) → let s = o.line_of-s.result in
    o.is_other.result ≡ is_other (get_or o.args.sizes.now (nat_abs s.block) (pos 0)) s.size
other-told o =
    let s = o.line_of-s.result in
    let sizes = o.args.sizes.now in
    let b = block-fits (goal.at.After-is_other o).Else-not-good_line in
    let read : SFits w64 (get_or sizes (nat_abs (to_z w64 (of_z w64 s.block))) (pos 0)) = search rules in
    let f : SFits w64 (get_or sizes (nat_abs s.block) (pos 0)) = simp (to_z-of_z, b) at read in
    let g : SFits w64 s.size = search rules in
    simp (to_z-of_z, b, f, g) at o.is_other.ensures

pub returns-then-is_other-clause-line : goal.returns-then-is_other-clause-line
returns-then-is_other-clause-line c =
    let at = goal.at.returns-then-is_other-clause-line c in
    let k = at.After-line_of-s in
    let sizes = c.args.sizes.now in
    let check = check-other sizes (numbers k) c.line_of-s.ensures (good-told at.Else-not-good_line) (sym (other-told at.After-is_other) ∙ c.if-is_other.true) in
    (18, judged-bad (check_line_by sizes) [] (row_given k) check, refl)

pub returns-clause-line : goal.returns-clause-line
returns-clause-line c =
    let at = goal.at.returns-clause-line c in
    let k = at.After-line_of-s in
    let sizes = c.args.sizes.now in
    let check = check-taken sizes (numbers k) c.line_of-s.ensures (good-told at.Else-not-good_line) (sym (other-told at.After-is_other) ∙ c.if-is_other.false) in
    (numbers k, judged-good (check_line_by sizes) [] (row_given k) check, sym c.line_of-s.ensures, c.in-Some.ensures.line.1)
