-- Tests on signed numbers. The order and its tests are the library's (lib.Signed); these are beside them. Assumes nothing.
use Rattle.std.specs.Prelude.{Bool, false, cond, eqb, ℤ, pos, negsuc}
use Rattle.std.specs.Int.Signed.{le_z}

-- the two numbers are the same
abbrev pub eq_z : ℤ → ℤ → Bool
eq_z (pos a) (pos b) = eqb a b
eq_z (pos a) (negsuc b) = false
eq_z (negsuc a) (pos b) = false
eq_z (negsuc a) (negsuc b) = eqb a b

-- the lower of two
abbrev pub min_z : ℤ → ℤ → ℤ
min_z a b = cond (le_z a b) a b

-- the higher of two
abbrev pub max_z : ℤ → ℤ → ℤ
max_z a b = cond (le_z a b) b a
