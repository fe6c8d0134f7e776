-- The invariant: the rows before v are taken.
use Rattle.std.proofs.Common.{ℕ, ◌<◌}
use Rattle.std.specs.Prelude.{Ok}
use Rattle.tables.proofs.first_refused.Given as goal

abbrev pub invariant-loop-v : goal.invariant-loop-v
invariant-loop-v g l = (w : ℕ) → w < l.v → goal.F-post g l.check w (Ok tt)
