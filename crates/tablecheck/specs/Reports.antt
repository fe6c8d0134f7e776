-- What the writing of the lines of all pairs starts from. Assumes nothing.
use Rattle.std.specs.Prelude.{◌≡◌, ℕ, ◌≤◌, length, take}
use mathlib.Core.List.{List, flat_map}
use Rattle.model.specs.Limits.{max_pairs}
use Rattle.model.specs.Compare.{Tables, findings}
use Rattle.model.specs.Report.{finding_line}
use Rattle.pathlimit.specs.Inputs.{Ready}
use Rattle.reporting.specs.Lines.{lines_of}

-- tables that are ready to be compared, and their lines, so many, in front of `lines` where there is room for all of them; in any case there is room for
-- those of a root row
pub record Reportable (t : Tables) (specPlan implPlan links lines : List ℕ) (count : ℕ) : Type 0 where
  pub ready : Ready t specPlan implPlan links
  pub held : count ≤ length lines → lines_of (take count lines) ≡ flat_map finding_line (findings t)
  pub room : max_pairs ≤ length lines
