-- The invariant: the first i rows are split.
use Prim.Native.Nat.{◌≤◌}
use Rattle.depth.specs.Passes.{enters_stamped, SplitInto}
use Rattle.depth.proofs.split_rows.Given as goal

abbrev pub invariant-loop-i : goal.invariant-loop-i
invariant-loop-i l = (l.kept ≤ l.i) × SplitInto (enters_stamped l.edges l.stamp l.marks) l.i l.initial.rest l.initial.order l.at l.kept l.rest l.order
