-- The report's length without the verdict. Assumes nothing.
use Rattle.std.specs.Prelude.{ℕ}
use Rattle.model.specs.Calls.{Answer, refused, full}
use Rattle.tablecheck.specs.Outcomes.{Measured}

-- an answer by the report's length alone
unfoldable pub length_alone : Answer Measured → Answer ℕ
length_alone (refused r) = refused r
length_alone (full m) = full m.bytes
