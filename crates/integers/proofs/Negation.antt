-- The negation of a number that code computes.
use mathlib.Core.Path.{◌≡◌, ◌∙◌}
use Prim.Native.Nat.{ℕ, ◌<◌, ◌^◌}
use native.Mathlib.Omega.{arith}
use lib.IntN.{pos, neg_ℤ, ◌-ℤ◌}
use mir.Syntax.{w64}
use mir.Val.{SFits, to_z, of_z}
use mir.Facts.{to_z-of_z, to_z_pos}
use Rattle.integers.proofs.Linear.{ints, diff, neg}
use Rattle.integers.proofs.Range.{fits64}

module _ {n : ℕ} (low : n < 2 ^ 63) where
  -- the negation of a number below 2^63 fits
  pub negated_fits : SFits w64 (pos 0 -ℤ to_z w64 n)
  negated_fits = rw (to_z_pos w64 low) (fits64 (omega (arith, ints, diff (pos 0) (pos n))))

  -- and is what the code computes
  pub negated : to_z w64 (of_z w64 (pos 0 -ℤ to_z w64 n)) ≡ neg_ℤ (pos n)
  negated =
      let same : pos 0 -ℤ pos n ≡ neg_ℤ (pos n) = omega (arith, ints, diff (pos 0) (pos n), neg (pos n)) in
      to_z-of_z negated_fits ∙ rw (to_z_pos w64 low) same
