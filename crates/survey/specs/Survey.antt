-- What a survey of the pairs keeps. Assumes nothing.
use mathlib.Core.List.{List, flat_map}
use Rattle.std.specs.Prelude.{ℕ, ◌≤◌, ◌<◌, ◌^◌, length}
use Rattle.model.specs.Compare.{Tables, findings}
use Rattle.model.specs.Report.{finding_line}
use Rattle.totals.specs.declared.Kept.{Kept}
use Rattle.totals.specs.Kept.{KeptOf}

-- what a survey gives: what is kept of all findings where at most `room` bytes of lines are counted; where more are, the lines of all findings are longer
-- than that; in either case fewer than 2^32 are counted
pub record Surveyed (t : Tables) (room : ℕ) (r : Kept) (lines : List ℕ) : Type 0 where
  pub within : r.bytes ≤ room → KeptOf (findings t) lines r
  pub past : room < r.bytes → room < length (flat_map finding_line (findings t))
  pub fits : r.bytes < 2 ^ 32
