-- The number is not negative, so that the cast keeps it.
use mathlib.Core.Path.{ap}
use borrow.Author.Rules.{rules}
use lib.IntN.{pos, nat_abs}
use lib.ListN.{get_or}
use lib.Signed.{yes_non_neg}
use mir.Syntax.{w64}
use mir.Val.{SFits}
use mir.Facts.{to_z-of_z, Fits-nat_abs}
use Rattle.sheettables.proofs.number_at.Goals as goal

pub overflow_cast-result : goal.overflow_cast-result
overflow_cast-result c =
    let fits : SFits w64 (get_or c.args.lines.now c.args.at (pos 0)) = search rules in
    rw (to_z-of_z fits) (yes_non_neg c.requires.1, Fits-nat_abs tt fits)

pub returns : goal.returns
returns c =
    let fits : SFits w64 (get_or c.args.lines.now c.args.at (pos 0)) = search rules in
    ap nat_abs (to_z-of_z fits)
