-- One more than a last bit below 2^62 fits, so that the test is that of the numbers.
use native.Mathlib.Omega.{arith}
use lib.IntN.{pos, ◌+ℤ◌}
use mir.Syntax.{w64}
use mir.Val.{SFits}
use mir.Facts.{to_z-of_z}
use Rattle.integers.proofs.Linear.{ints, sum}
use Rattle.integers.proofs.Range.{fits64, range64}
use Rattle.normalisation.proofs.meets.Goals.{Start}
use Rattle.normalisation.proofs.meets.Goals as goal

-- one more than the last bit
above : (s : Start) → SFits w64 (s.args.last +ℤ pos 1)
above s = fits64 (omega (arith, ints, s.requires, range64 s.ranges.last, sum s.args.last (pos 1)))

pub overflow_add-result : goal.overflow_add-result
overflow_add-result c = rw (to_z-of_z c.ranges.last) (above c)

pub returns : goal.returns
returns c = simp (to_z-of_z, c.ranges.first, c.ranges.last, above c)
