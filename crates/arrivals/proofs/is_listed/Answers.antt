-- The number read fits an i64, so that its bits stand for it.
use mathlib.Core.Path.{ap, ◌∙◌}
use borrow.Author.Rules.{rules}
use lib.IntN.{pos}
use lib.Signed.{le_z}
use mir.Val.{SFits}
use mir.Facts.{to_z-of_z}
use mir.Syntax.{w64}
use Rattle.arrivals.proofs.is_listed.Goals as goal

pub returns : goal.returns
returns c =
    let fits : SFits w64 c.list_row.result = search rules in
    ap (le_z (pos 0)) (to_z-of_z fits ∙ c.list_row.ensures)
