-- The invariant is `Parted`; the measure is the rows that are left to be searched.
use Prim.Native.Nat.{◌-◌}
use Rattle.references.specs.References.{Parted}
use Rattle.references.proofs.rows_below.Given as goal

abbrev pub invariant-loop-low : goal.invariant-loop-low
invariant-loop-low l = Parted l.state l.row l.count l.d.0 l.low l.high

abbrev pub decreases-loop-low : goal.decreases-loop-low
decreases-loop-low l = l.high - l.low
