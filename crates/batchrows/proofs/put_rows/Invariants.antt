-- The invariant: the rows of the addresses before `place` stand in the front of the buffer.
use mathlib.Core.Path.{◌≡◌}
use lib.ListN.{length}
use Rattle.batches.specs.Buffers.{rows_over}
use Rattle.verdicts.specs.Records.{as_record}
use Rattle.batches.proofs.Turns.{rows_to}
use Rattle.batchrows.proofs.put_rows.Given as goal

abbrev pub invariant-loop-place : goal.invariant-loop-place
invariant-loop-place l =
    (l.rows ≡ length (rows_to (as_record l.s) l.addresses l.place)) × (l.out ≡ rows_over (rows_to (as_record l.s) l.addresses l.place) l.initial.out)
