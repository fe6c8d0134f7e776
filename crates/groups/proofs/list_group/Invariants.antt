-- The invariant: the rows of the banks passed are gathered, and the state keeps its length. The measure is what is left of the rows.
use mathlib.Core.Path.{◌≡◌}
use Prim.Native.Nat.{◌-◌, ◌/◌}
use lib.ListN.{length}
use Rattle.model.specs.Limits.{pair_width}
use Rattle.groups.proofs.Turns.{Turned}
use Rattle.groups.proofs.list_group.Given as goal

abbrev pub invariant-loop-row : goal.invariant-loop-row
invariant-loop-row l =
    Turned l.nodes l.edges l.plan l.pairs l.lowest l.initial.state l.state l.n l.row × (length l.state ≡ length l.initial.state)

abbrev pub decreases-loop-row : goal.decreases-loop-row
decreases-loop-row l = length l.pairs / pair_width - l.row
