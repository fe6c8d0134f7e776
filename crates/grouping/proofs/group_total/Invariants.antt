-- The invariant: the rows of the group before the next are summed. The measure is what is left of the rows.
use Prim.Native.Nat.{◌-◌}
use Rattle.grouping.proofs.Totals.{Summed}
use Rattle.grouping.proofs.group_total.Given as goal

abbrev pub invariant-loop-bank : goal.invariant-loop-bank
invariant-loop-bank l = Summed l.pairs l.counts l.lowest l.total l.bank

abbrev pub decreases-loop-bank : goal.decreases-loop-bank
decreases-loop-bank l = l.count - l.bank
