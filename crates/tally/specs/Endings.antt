-- How a check ends, as the code holds it. Assumes nothing.
use Rattle.std.specs.Prelude.{ℕ}
use Rattle.tally.specs.declared.Ending.{Ending}
use Rattle.tally.specs.declared.Ending.TheVariants as endings

-- the place of its count among those of a caller
abbrev pub ending_place : Ending → ℕ
ending_place endings.Equal = 0
ending_place endings.Partial = 1
ending_place endings.Different = 2
ending_place endings.Refused = 3
