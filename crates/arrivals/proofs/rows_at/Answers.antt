-- The cast keeps a number that is not negative.
use borrow.Author.Rules.{rules}
use Prim.Native.Nat.{◌+◌, ◌*◌}
use lib.IntN.{pos}
use lib.ListN.{get_or}
use mir.Syntax.{w64}
use mir.Val.{SFits}
use mir.Facts.{to_z-of_z}
use Rattle.integers.proofs.Range.{lt_z_false}
use Rattle.tables.proofs.Cells.{index_fits}
use Rattle.arrivals.specs.State.{mark_width}
use Rattle.arrivals.proofs.rows_at.Goals as goal

pub overflow_cast-rows : goal.overflow_cast-rows
overflow_cast-rows c =
    let s = c.args in
    let rows = get_or s.state.now (mark_width * s.v + 5) (pos 0) in
    let f : SFits w64 (get_or s.state.now (mark_width * s.v + 5) (pos 0)) = search rules in
    index_fits f (lt_z_false rows (pos 0) (simp (to_z-of_z, f) at c.if-rows-lt0.false))
