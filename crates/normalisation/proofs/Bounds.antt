-- The lower and the higher of two numbers, as the library has them, are those of the definitions.
use Rattle.std.proofs.Common.{◌≡◌, arith}
use Rattle.std.proofs.lemmas.Grind.{common_steps}
use Rattle.std.specs.Int.{int_min, int_max}
use lib.IntN.{ℤ}
use Rattle.integers.specs.Integers.{min_z, max_z}

pub int_min-is : (a b : ℤ) → int_min a b ≡ min_z a b
int_min-is a b = grind (arith, common_steps)

pub int_max-is : (a b : ℤ) → int_max a b ≡ max_z a b
int_max-is a b = grind (arith, common_steps)
