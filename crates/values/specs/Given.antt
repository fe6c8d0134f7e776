-- The number that digits write, scanned from the front, and what the functions give of it. Assumes nothing.
use Rattle.std.specs.Prelude as std
use Rattle.std.specs.Prelude.{cond, [], ◌∷◌, ℕ, ◌+◌, ◌-◌, ◌*◌, ℤ}
use Rattle.std.proofs.Math.Option.{Option, none, some}
use Rattle.model.specs.Bytes.{Bytes}
use Rattle.model.specs.Reader.{is_digit}

-- the number that digits write behind digits that write v; no other bytes are among them
unfoldable pub scanned : ℕ → Bytes → Option ℕ
scanned v [] = some v
scanned v (c ∷ t) = cond (is_digit c) (scanned (v * 10 + (c - 48)) t) none

-- the number that digits write
abbrev pub digits_value : std.Option ℕ → Option ℕ
digits_value (std.Some n) = some n
digits_value std.None = none

-- the number that a field writes
abbrev pub signed_value : std.Option ℤ → Option ℤ
signed_value (std.Some v) = some v
signed_value std.None = none
