-- The measure is the remaining chain length. The loop's invariant is `Passing`, over what an edge gives of the walker; the measure of the loop is
-- what is left of the edges.
use Prim.Native.Nat.{◌-◌, ◌/◌}
use lib.IntN.{pos}
use lib.ListN.{length}
use Rattle.model.specs.Graph.{graph_of}
use Rattle.model.specs.Limits.{edge_width}
use Rattle.listing.proofs.Passing.{Passing}
use Rattle.listing.proofs.+walk_from.Given as goal

abbrev pub invariant-loop-e : goal.invariant-loop-e
invariant-loop-e g l =
    Passing l.nodes l.edges l.head l.next l.leaf l.v (g.W.Walker.rows_over l.kind (l.left - 1) (graph_of l.nodes l.edges) (pos l.leaf) l.walker) l.initial.out l.n l.out l.m l.e

abbrev pub decreases-loop-e : goal.decreases-loop-e
decreases-loop-e g l = length l.edges / edge_width - l.e

abbrev pub decreases-walk_from : goal.decreases-walk_from
decreases-walk_from g l = l.left
