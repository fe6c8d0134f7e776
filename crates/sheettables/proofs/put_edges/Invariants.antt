-- The invariant: the edges of the first k lines stand at the front of the table.
use mathlib.Core.Path.{◌≡◌}
use lib.Seq.{sets}
use Rattle.sheettables.specs.Parts.{edges_of}
use Rattle.sheettables.proofs.put_edges.Given as goal

abbrev pub invariant-loop-k : goal.invariant-loop-k
invariant-loop-k l = l.edges ≡ sets l.initial.edges 0 (edges_of l.roots l.leaves l.lines l.k)
