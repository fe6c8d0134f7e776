-- The owner is not negative where something has arrived, so that the cast keeps it.
use mathlib.Core.Path.{◌≡◌, ◌∙◌}
use Prim.Native.Nat.{◌*◌}
use borrow.Author.Rules.{rules}
use lib.IntN.{pos, nat_abs}
use lib.ListN.{get_or}
use mir.Facts.{to_z-of_z}
use mir.Val.{SFits, to_z, of_z}
use mir.Syntax.{w64}
use Rattle.tables.proofs.Cells.{index_fits, index_same}
use Rattle.arrivals.specs.State.{mark_width, mark_number}
use Rattle.arrivals.proofs.Marks.{owner-number, owner-low}
use Rattle.arrivals.proofs.reference_at.Goals as goal

pub overflow_cast-result : goal.overflow_cast-result
overflow_cast-result c =
    let fits : SFits w64 (get_or c.args.state.now (mark_width * c.args.v) (pos 0)) = search rules in
    index_fits fits (owner-low c.args.state.now c.args.v c.requires.1)

pub returns : goal.returns
returns c =
    let st = c.args.state.now in
    let v = c.args.v in
    let f : SFits w64 (get_or st (mark_width * v) (pos 0)) = search rules in
    let f1 : SFits w64 (mark_number st v 1) = search rules in
    let f2 : SFits w64 (mark_number st v 2) = search rules in
    let f3 : SFits w64 (mark_number st v 3) = search rules in
    let owner : pos (nat_abs (to_z w64 (of_z w64 (get_or st (mark_width * v) (pos 0))))) ≡ mark_number st v 0 =
    index_same f (owner-low st v c.requires.1) ∙ owner-number st v in
    let root : c.of.result.0 ≡ mark_number st v 1 = c.of.ensures ∙ to_z-of_z f1 in
    let low : c.of-2.result.0 ≡ mark_number st v 2 = c.of-2.ensures ∙ to_z-of_z f2 in
    let high : c.of-3.result.0 ≡ mark_number st v 3 = c.of-3.ensures ∙ to_z-of_z f3 in
    cc
