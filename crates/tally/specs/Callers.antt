-- Who asks for a check, as the code holds it. Assumes nothing.
use Rattle.std.specs.Prelude as std
use Rattle.std.proofs.Math.Option.{Option, none, some}
use Rattle.std.specs.Prelude.{ℕ, ◌<◌}
use Rattle.model.specs.Limits.{callers}

-- the caller, or none
abbrev pub caller_named : std.Option ℕ → Option ℕ
caller_named (std.Some k) = some k
caller_named std.None = none

-- a caller is one of sixteen
abbrev pub OneOfSixteen : std.Option ℕ → Type 0
OneOfSixteen (std.Some k) = k < callers
OneOfSixteen std.None = Unit {0}
