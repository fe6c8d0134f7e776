-- The three numbers are written as a part of what is kept, where the room lasts for them.
use native.Mathlib.Omega.{arith}
use borrow.Author.Rules.{rules}
use mir.Syntax.{w64}
use mir.Val.{SFits}
use mir.Facts.{to_z-of_z}
use Rattle.sides.proofs.RowLines.{append_none}
use Rattle.sheettables.specs.Kept.{line_room, line_numbers}
use Rattle.sheetlines.specs.Given.{line_in}
use Rattle.sheetlines.proofs.Keeping.{line-appended}
use Rattle.sheetlines.proofs.keep_line.Goals as goal

pub returns-then-n-lt-EDGE_WIDTH : goal.returns-then-n-lt-EDGE_WIDTH
unfolding line_numbers
returns-then-n-lt-EDGE_WIDTH c = append_none line_room c.args.n (line_numbers (line_in c.args.s)) c.args.kept.now (omega arith)

pub returns : goal.returns
returns c =
    let s = c.args.s in
    let f : SFits w64 s.initiator = search rules in
    let g : SFits w64 s.block = search rules in
    let h : SFits w64 s.base = search rules in
    line-appended c.args.kept.now c.args.n (line_in s) (omega arith) (simp (to_z-of_z, f, g, h) at c.copy_from_slice.ensures.after) (omega arith)
