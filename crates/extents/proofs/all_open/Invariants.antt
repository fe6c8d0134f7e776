-- The invariant: the rows passed may be read and written.
use mathlib.Core.Path.{◌≡◌}
use Prim.Native.Nat.{ℕ, ◌<◌}
use Rattle.model.specs.Graph.{read_write}
use Rattle.tables.specs.Tables.{node_at}
use Rattle.extents.proofs.all_open.Given as goal

abbrev pub invariant-loop-v : goal.invariant-loop-v
invariant-loop-v l = (w : ℕ) → w < l.v → (node_at l.nodes w).access ≡ read_write
