-- What reading standard input gives. Assumes nothing.
use Rattle.std.specs.Prelude.{ℕ, ◌<◌, ◌≤◌, List, Option, length, take}
use Rattle.std.specs.Io.KnownBytes.{Consumes, IsAtEnd}

-- n bytes were read: they stand at the front of the buffer, in which they have room, the reader has them no more, and where they do not fill the buffer
-- it has no other
pub record ReadInto (before after : Option (List ℕ)) (text : List ℕ) (n : ℕ) : Type 0 where
  pub within : n ≤ length text
  pub bytes : Consumes before after (take n text)
  pub ended : n < length text → IsAtEnd after
