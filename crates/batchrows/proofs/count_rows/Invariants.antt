-- The invariant: the rows of the addresses before this one are counted.
use mathlib.Core.Path.{◌≡◌}
use lib.ListN.{length}
use Rattle.verdicts.specs.Records.{as_record}
use Rattle.batches.proofs.Turns.{rows_to}
use Rattle.batchrows.proofs.count_rows.Given as goal

abbrev pub invariant-loop-address : goal.invariant-loop-address
invariant-loop-address l = l.rows ≡ length (rows_to (as_record l.s) l.addresses l.address-index)
