-- The invariant is Rowing.
use Rattle.sheettables.proofs.Passes.{Rowing}
use Rattle.sheettables.proofs.number_rows.Given as goal

abbrev pub invariant-loop-v : goal.invariant-loop-v
invariant-loop-v l = Rowing l.ranges l.first l.rows l.row l.v
