-- The invariant: i records are stored, and the rest is as it was.
use Rattle.std.proofs.Common.{◌≡◌, ◌++◌, drop}
use Rattle.records.specs.Putting.{records_in}
use Rattle.records.proofs.put_records.Given as goal

abbrev pub invariant-loop-i : goal.invariant-loop-i
invariant-loop-i l = l.record-items ≡ records_in l.numbers l.i ++ drop l.i l.initial.record-items
