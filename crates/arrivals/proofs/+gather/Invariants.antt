-- The measure is the remaining chain length. The loop's invariant is `Through`: what comes over the edges that are done; its measure is what is left of the edges.
use Prim.Native.Nat.{◌-◌, ◌/◌}
use lib.ListN.{length}
use Rattle.model.specs.Limits.{edge_width}
use Rattle.references.specs.References.{reference_of}
use Rattle.arrivals.proofs.Gathering.{Through}
use Rattle.arrivals.proofs.+gather.Given as goal

abbrev pub invariant-loop-e : goal.invariant-loop-e
invariant-loop-e l = Through l.nodes l.edges (reference_of l.f) l.initial.state l.n l.state l.m l.e

abbrev pub decreases-loop-e : goal.decreases-loop-e
decreases-loop-e l = length l.edges / edge_width - l.e

abbrev pub decreases-gather : goal.decreases-gather
decreases-gather l = l.left
