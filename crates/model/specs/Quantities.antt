-- What is asked of numbers that the code adds, scales and moves, so that the results are numbers of 64 bits. Assumes nothing.
-- The limits of a taken graph lie far inside: bit addresses up to last_address, bit offsets within ±max_bits.
use Rattle.std.specs.Prelude.{◌^◌, ℤ, pos, neg_ℤ, ◌+ℤ◌, ◌-ℤ◌, ◌*ℤ◌, ◌≤ℤ◌, ◌<ℤ◌}
use Rattle.model.specs.Limits.{address_room}

-- number + more is at least −2^62, and a number of 64 bits
pub record Addable (number more : ℤ) : Type 0 where
  pub low : neg_ℤ (pos address_room) ≤ℤ (number +ℤ more)
  pub high : (number +ℤ more) <ℤ pos (2 ^ 63)

-- units × unit lies within ±2^62
pub record Scalable (units unit : ℤ) : Type 0 where
  pub low : neg_ℤ (pos address_room) ≤ℤ (units *ℤ unit)
  pub high : (units *ℤ unit) ≤ℤ pos address_room

-- a bit address below 2^62, and a bit offset within ±2^62
pub record Movable (address offset : ℤ) : Type 0 where
  pub low : pos 0 ≤ℤ address
  pub high : address <ℤ pos address_room
  pub offset_low : neg_ℤ (pos address_room) ≤ℤ offset
  pub offset_high : offset ≤ℤ pos address_room

-- number − less is a number of 64 bits
pub record Subtractable (number less : ℤ) : Type 0 where
  pub low : neg_ℤ (pos (2 ^ 63)) ≤ℤ (number -ℤ less)
  pub high : (number -ℤ less) <ℤ pos (2 ^ 63)
