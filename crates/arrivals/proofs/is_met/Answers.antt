-- The number read fits an i64, so that its bits stand for it.
use mathlib.Core.Path.{ap, ◌∙◌}
use Prim.Native.Nat.{◌*◌}
use borrow.Author.Rules.{rules}
use lib.IntN.{pos}
use lib.Signed.{le_z}
use lib.ListN.{get_or}
use mir.Val.{SFits}
use mir.Facts.{to_z-of_z}
use mir.Syntax.{w64}
use Rattle.arrivals.specs.State.{mark_width}
use Rattle.arrivals.proofs.Marks.{owner-number}
use Rattle.arrivals.proofs.is_met.Goals as goal

pub returns : goal.returns
returns c =
    let fits : SFits w64 (get_or c.args.state.now (mark_width * c.args.v) (pos 0)) = search rules in
    ap (le_z (pos 0)) (to_z-of_z fits ∙ owner-number c.args.state.now c.args.v)
