-- The pass of a batch over a list of records: what it may be given, and what it leaves. Assumes nothing.
use Rattle.std.specs.Prelude.{Result}
use Rattle.std.specs.Prelude.{◌≡◌, List, ℕ, ◌+◌, ◌*◌, ◌≤◌, ◌<◌, ℤ, length}
use Rattle.lists.specs.Lists.{◌∈◌}
use Rattle.model.specs.Limits.{record_width, max_paths, max_batch, batch_width}
use Rattle.model.specs.Bitmapping.{Record}
use Rattle.model.specs.Checks.{check_output}
use Rattle.model.specs.Calls.{answer, buffer_after}
use Rattle.batches.specs.Batch.{BatchCounts, batch_rows, batch_numbers, batched_answer}
use Rattle.normalisation.specs.Records.{records_of}
use Rattle.batches.specs.Buffers.{rows_behind}
use Rattle.batchrows.specs.LeafBits.{LeafBitsFit}
use Rattle.model.specs.declared.BatchCounts as code
use Rattle.model.specs.declared.Reason.{Reason}

-- n records stand in the front of a list, with leaf bits that are numbers of 64 bits, and a batch keeps its limit
pub record Passable (list : List ℤ) (n : ℕ) (xs : List ℤ) : Type 0 where
  pub within : record_width * n ≤ length list
  pub few : n ≤ max_paths
  pub batch : length xs ≤ max_batch
  pub fit : (s : Record) → s ∈ records_of list n → LeafBitsFit s

-- the pass went through the records, with so many rows before theirs in a buffer that held `old`
pub record PassedBehind (list : List Record) (xs : List ℤ) (before : ℕ) (old : List ℤ) (given : BatchCounts) (new : List ℤ) : Type 0 where
  -- how many rows there are then, and how many records were read
  pub rows : given.rows ≡ before + length (batch_rows list xs)
  pub records : given.records ≡ length list
  -- where all rows fit, those of the records stand behind the rows before them, and all else is as it was
  pub fits : batch_width * (before + length (batch_rows list xs)) ≤ length old
      → new ≡ rows_behind before (batch_rows list xs) old
  -- else nothing was written
  pub short : length old < batch_width * (before + length (batch_rows list xs)) → new ≡ old

-- the pass went through all records of a list, for a batch, into a buffer that held `old`
pub record Passed (records : List Record) (xs : List ℤ) (old : List ℤ) (given : Result code.BatchCounts Reason) (new : List ℤ) : Type 0 where
  -- how many rows there are, and how many records were read; or refused where the rows do not fit
  pub answers : batched_answer given
      ≡ answer (check_output (length (batch_numbers (batch_rows records xs))) (length old)) (record { rows = length (batch_rows records xs); records = length records })
  -- untouched where they do not fit, else the numbers of the rows, and past them what it held
  pub buffer : new ≡ buffer_after (answer (check_output (length (batch_numbers (batch_rows records xs))) (length old)) (batch_numbers (batch_rows records xs))) old
