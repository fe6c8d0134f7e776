use mathlib.Core.Path.{sym, ap, subst, ◌∙◌}
use Prim.Native.Nat.{◌<◌}
use native.Mathlib.Omega.{arith}
use lib.IntN.{pos, nat_abs}
use lib.ListN.{set, get_or-replicate}
use mir.Syntax.{w64}
use mir.Val.{to_z, of_z}
use mir.Facts.{to_z-of_z}
use Rattle.std.proofs.lemmas.Result.{err_from_is_err_and}
use Rattle.model.specs.Limits.{sheet_numbers}
use Rattle.model.specs.Reader.{stopped}
use Rattle.model.specs.Sheet.{SheetLine}
use Rattle.sheetlaws.proofs.Lines.{LineBounds}
use Rattle.sheettables.specs.Kept.{line_room, line_numbers}
use Rattle.tables.proofs.Cells.{index_fits}
use Rattle.sides.specs.Given.{row_room, Appended}
use Rattle.sheetlines.specs.Given.{line_in}
use Rattle.sheetlines.proofs.Judging.{taken_bounds, block-below, block-fits, size_fits}
use Rattle.sheetlines.proofs.Reading.{LinesLeft, lines_start, lines-all, lines-bad, lines_onward, lines_next}
use Rattle.sheetlines.proofs.read_values.Goals.{In_ok-s}
use Rattle.sheetlines.proofs.read_values.Goals as goal

pub loop-c-init : goal.loop-c-init
loop-c-init c =
    (get_or-replicate row_room c.args.cs.fields (pos 0) (pos 0) (omega (arith, c.requires.1.few_fields)), lines_start c.args.cs c.args.kept.now c.requires.0 c.requires.4)

pub returns-in_err-s : goal.returns-in_err-s
returns-in_err-s c =
    let p = err_from_is_err_and c.from_residual.result c.from_residual.ensures.1 in
    let given = c.in_err-s.ensures.line in
    rw (p.1, p.2) (lines-bad c.loop-c.invariant.1 c.loop-c-test.true given.1 ∙ ap stopped (sym given.2))

-- the line keeps its limits
bounds : (v : In_ok-s) → LineBounds (line_in v.in_ok-s.s)
bounds v = let given = v.in_ok-s.ensures.line in subst LineBounds given.2 (taken_bounds v.loop-c.sizes _ given.1)

-- the place of its block among the sizes
place : (v : In_ok-s) → nat_abs (to_z w64 (of_z w64 v.in_ok-s.s.block)) < sheet_numbers
place v = simp (to_z-of_z, block-fits (bounds v)) (block-below (bounds v))

pub overflow_cast-s : goal.overflow_cast-s
overflow_cast-s c = let b = bounds (goal.at.overflow_cast-s c).In_ok-s in index_fits (block-fits b) b.block.0

pub offset_bounds-sizes-s : goal.offset_bounds-sizes-s
offset_bounds-sizes-s c = omega (arith, place (goal.at.offset_bounds-sizes-s c).In_ok-s)

pub bounds-sizes-s : goal.bounds-sizes-s
bounds-sizes-s c = omega (arith, place (goal.at.bounds-sizes-s c).In_ok-s, c.loop-c.invariant.1.sized.whole)

pub loop-c-smaller : goal.loop-c-smaller
loop-c-smaller c = omega (arith, lines_onward c.loop-c.invariant.1 c.loop-c-test.true c.in_ok-s.ensures.line.3)

pub loop-c-preserved : goal.loop-c-preserved
loop-c-preserved c =
    let b = bounds (goal.at.loop-c-preserved c).In_ok-s in
    let given = c.in_ok-s.ensures.line in
    let kept = c.keep_line-n.new.kept in
    let stored = subst (λ (x : SheetLine). Appended line_room (line_numbers x) c.loop-c.kept kept c.loop-c.n c.keep_line-n.result) (sym given.2) c.keep_line-n.ensures in
    let next = lines_next c.loop-c.invariant.1 c.loop-c-test.true given.3 given.0 given.1 c.requires.3 stored in (
      c.in_ok-s.ensures.clear,
      simp (to_z-of_z, block-fits b, size_fits b)
          (subst (λ (x : SheetLine). LinesLeft c.args.text.now c.args.cs c.args.kept.now c.args.from kept
          (set c.loop-c.sizes (nat_abs x.block) x.size) c.in_ok-s.next c.keep_line-n.result) given.2 next),
    )

pub returns : goal.returns
returns c = lines-all c.loop-c.invariant.1 c.loop-c-test.false
