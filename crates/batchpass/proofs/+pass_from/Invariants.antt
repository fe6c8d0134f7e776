-- The measure is the number of records left.
use Prim.Native.Nat.{◌-◌}
use Rattle.batchpass.proofs.+pass_from.Given as goal

abbrev pub decreases-pass_from : goal.decreases-pass_from
decreases-pass_from l = l.n - l.i
