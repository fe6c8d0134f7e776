-- The invariant: the starts of the rows that are passed are stamped.
use mathlib.Core.Path.{◌≡◌}
use lib.ListN.{take}
use Rattle.depth.specs.Passes.{stamped}
use Rattle.depth.proofs.stamp_starts.Given as goal

abbrev pub invariant-loop-e : goal.invariant-loop-e
invariant-loop-e l = l.marks ≡ stamped l.edges l.stamp (take l.e-index l.e-items) l.initial.marks
