-- Rows of a batch in a lent buffer. Assumes nothing.
use Rattle.std.specs.Prelude.{List, ◌++◌, ℕ, ◌+◌, ◌*◌, ℤ, length, take, drop}
use Rattle.model.specs.Limits.{batch_width}
use Rattle.batches.specs.Batch.{BatchRow, batch_numbers}

-- rows in the front of a buffer that held `old`, and past them what it held
abbrev pub rows_over : List BatchRow → List ℤ → List ℤ
rows_over ts old = batch_numbers ts ++ drop (batch_width * length ts) old

-- rows behind the first b rows of a buffer that held `old`, and before and past them what it held
abbrev pub rows_behind : ℕ → List BatchRow → List ℤ → List ℤ
rows_behind b ts old = take (batch_width * b) old ++ (batch_numbers ts ++ drop (batch_width * (b + length ts)) old)
