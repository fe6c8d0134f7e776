-- Each number stands at its column.
use mathlib.Core.Path.{sym}
use borrow.Author.Rules.{rules}
use lib.IntN.{pos}
use lib.ListN.{get_or}
use mir.Syntax.{w64}
use mir.Val.{SFits}
use mir.Facts.{to_z-of_z}
use Rattle.sheetlines.proofs.Judging.{line-columns}
use Rattle.sheetlines.proofs.line_of.Goals as goal

pub returns : goal.returns
returns c =
    let row = c.args.row.now in
    let at = c.args.cs.at in
    let f : SFits w64 (get_or row (get_or at 0 0) (pos 0)) = search rules in
    let g : SFits w64 (get_or row (get_or at 1 0) (pos 0)) = search rules in
    let h : SFits w64 (get_or row (get_or at 2 0) (pos 0)) = search rules in
    let i : SFits w64 (get_or row (get_or at 3 0) (pos 0)) = search rules in
    simp (to_z-of_z, f, g, h, i) (sym (line-columns c.requires.0 c.requires.2 row))
