-- What is asked of numbers that the code adds, scales and moves makes the results numbers of 64 bits.
use Prim.Native.Nat.{◌^◌}
use native.Mathlib.Omega.{arith}
use lib.IntN.{ℤ, pos, ◌+ℤ◌, ◌-ℤ◌, ◌*ℤ◌}
use mir.Syntax.{w64}
use mir.Val.{SFits}
use Rattle.integers.proofs.Linear.{ints, neg, diff}
use Rattle.integers.proofs.Range.{fits64}
use Rattle.model.specs.Quantities.{Addable, Scalable, Movable, Subtractable}

-- the sum lies within ±2^62
pub addable_fits : {number more : ℤ} → Addable number more → SFits w64 (number +ℤ more)
addable_fits a = fits64 (omega (arith, ints, a.low, a.high, neg (pos (2 ^ 62))))

-- the product lies within ±2^62
pub scalable_fits : {units unit : ℤ} → Scalable units unit → SFits w64 (units *ℤ unit)
scalable_fits s = fits64 (omega (arith, ints, s.low, s.high, neg (pos (2 ^ 62))))

-- the address lies in 0 .. 2^62 − 1 and the offset within ±2^62
pub movable_fits : {address offset : ℤ} → Movable address offset → SFits w64 (address -ℤ offset)
movable_fits {address} {offset} m =
    fits64 (omega (arith, ints, m.low, m.high, m.offset_low, m.offset_high, neg (pos (2 ^ 62)), diff address offset))

-- the difference fits, as is asked
pub subtractable_fits : {number less : ℤ} → Subtractable number less → SFits w64 (number -ℤ less)
subtractable_fits s = fits64 (omega (arith, ints, s.low, s.high, neg (pos (2 ^ 63))))
