-- What a pass over the bytes of a text gives. Assumes nothing.
use Rattle.std.specs.Prelude.{Err, Ok, Result, ℕ}
use Rattle.std.specs.Prelude.{◌≡◌, suc}
use Rattle.std.proofs.Math.Option.{none, some}
use Rattle.model.specs.Bytes.{Bytes}
use Rattle.model.specs.MapFile.{feeds}
use Rattle.model.specs.Answers.{refusal_of}
use Rattle.model.specs.Reader.{check_bytes}
use Rattle.model.specs.declared.Reason.{Reason}

-- a pass over the bytes: the number of the line behind the last line feed, or refusal 12 with the line of the first byte that is not allowed
abbrev pub PassGiven : Bytes → (Result ℕ Reason) → Type 0
PassGiven text (Ok n) = (check_bytes 1 text ≡ none) × (n ≡ suc (feeds text))
PassGiven text (Err r) = check_bytes 1 text ≡ some (refusal_of r)
