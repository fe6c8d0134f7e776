-- The invariant: the state is swept from the root, by walks of the kind that was stored, over the first i edges of the plan.
use mathlib.Core.Path.{◌≡◌}
use lib.IntN.{pos}
use Rattle.arrivals.specs.State.{root_in, kind_in}
use Rattle.arrivals.specs.Sweep.{Sweeping}
use Rattle.arrivals.proofs.sweep_root.Given as goal

abbrev pub invariant-loop-i : goal.invariant-loop-i
invariant-loop-i l =
    Sweeping l.nodes l.edges l.plan l.i l.state × (root_in l.state ≡ pos l.root) × (kind_in l.state ≡ kind_in l.initial.state)
