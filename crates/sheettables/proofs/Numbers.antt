-- The numbers of a sheet: a number that is not outside them is one of them, and each is an index.
use mathlib.Core.Path.{◌≡◌}
use Prim.Native.Nat.{◌<◌}
use native.Mathlib.Omega.{arith}
use lib.IntN.{ℤ, pos, negsuc, nat_abs}
use lib.Signed.{◌<ℤ◌, lt_z, yes_non_neg, pos-nat_abs}
use Rattle.integers.proofs.Linear.{ints}
use Rattle.integers.proofs.Tests.{lt?}
use Rattle.lists.proofs.Decisions.{Decides, test_map, test_stable, decides_le, decides_and}
use Rattle.model.specs.Limits.{sheet_numbers}
use Rattle.model.specs.Sheet.{SheetNumber}

-- the order of two numbers is decided
decides_less : (a b : ℤ) → Decides (a <ℤ b) (lt_z a b)
decides_less a b = test_map (λ h. h) (λ h k. omega (arith, ints)) (lt? a b)

-- a number that is not outside those of a sheet is one of them
pub number_stable : (n : ℤ) → ((SheetNumber n → ⊥) → ⊥) → SheetNumber n
number_stable n f = test_stable (decides_and (decides_le (pos 0) n) (decides_less n (pos sheet_numbers))) f

-- it is its index
pub number_index : {z : ℤ} → SheetNumber z → pos (nat_abs z) ≡ z
number_index {z} h = pos-nat_abs z (yes_non_neg h.0)

-- which lies below the count of the numbers
pub number-below : {z : ℤ} → SheetNumber z → nat_abs z < sheet_numbers
number-below {z = pos n} h = omega (arith, ints)
number-below {z = negsuc n} h = absurd (omega (arith, ints))
