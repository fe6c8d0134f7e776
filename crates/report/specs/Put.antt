-- What a writer of report lines leaves in the buffer that it is lent. Assumes nothing.
use Rattle.std.specs.Prelude.{◌≡◌, ◌∷◌, ◌++◌, ℕ, zero, suc, ℤ, length, drop}
use Rattle.model.specs.Bytes.{Bytes, blank, shown}

-- the line stands at the front of the buffer, which keeps its bytes behind it, and n is the line's length
pub record Put (line before after : Bytes) (n : ℕ) : Type 0 where
  pub count : n ≡ length line
  pub stands : after ≡ line ++ drop (length line) before

-- the number at place i of a line, with a space before it unless it is the first
unfoldable pub field_at : ℕ → ℤ → Bytes
field_at zero v = shown v
field_at (suc i) v = blank ∷ shown v

-- a line that is measured has at most this many numbers
abbrev pub max_fields : ℕ
max_fields = 8

-- a refusal is printed into at least this many bytes
abbrev pub refusal_room : ℕ
refusal_room = 80
