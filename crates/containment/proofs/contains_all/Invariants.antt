-- The invariant: the pass says of the lists what it says from row i and row j on. The measure is what is left of both.
use mathlib.Core.Path.{◌≡◌}
use Prim.Native.Nat.{◌+◌, ◌-◌}
use Rattle.normalisation.specs.Merging.{displaced_of}
use Rattle.containment.specs.Containing.{contains_all}
use Rattle.containment.proofs.Turns.{displaced_from}
use Rattle.containment.proofs.contains_all.Given as goal

abbrev pub invariant-loop-j : goal.invariant-loop-j
invariant-loop-j l = contains_all (displaced_of l.spec l.ns) (displaced_of l.imp l.ni) ≡ contains_all (displaced_from l.spec l.i l.ns) (displaced_from l.imp l.j l.ni)

abbrev pub decreases-loop-j : goal.decreases-loop-j
decreases-loop-j l = (l.ns - l.i) + (l.ni - l.j)
