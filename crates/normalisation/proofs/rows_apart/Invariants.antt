-- The invariant: the current row is row i, and none in front of it touches the next.
use mathlib.Core.Path.{◌≡◌}
use Rattle.sorting.specs.Rows.{row_at}
use Rattle.normalisation.specs.Merging.{Apart}
use Rattle.normalisation.proofs.rows_apart.Given as goal

abbrev pub invariant-loop-i : goal.invariant-loop-i
invariant-loop-i l = (l.current ≡ row_at l.t l.i) × Apart l.t l.n l.i
