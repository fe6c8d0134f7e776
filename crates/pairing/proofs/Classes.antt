-- A node with a class is one of those that have one.
use mathlib.Core.Path.{◌≡◌}
use mathlib.Core.Bool.{true, false, ◌&&◌}
use mathlib.Core.List.{List}
use Prim.Native.Nat.{ℕ}
use native.Mathlib.Omega.{arith}
use lib.Dec.{eqb, ltb, ltb→lt}
use lib.IntN.{ℤ, pos, negsuc}
use lib.Signed.{◌≤ℤ◌, ◌<ℤ◌}
use lib.ListN.{length, get_or}
use Rattle.integers.proofs.Linear.{ints}
use Rattle.integers.proofs.Tests.{T_true, and_out}
use Rattle.pairing.specs.Classes.{other, has_class}

-- a node with a class is one of those that have one
pub class_index : (class : List ℕ) (wanted : ℕ) (v : ℤ) → has_class class wanted v ≡ true → (pos 0 ≤ℤ v) × (v <ℤ pos (length class))
unfolding has_class
class_index class wanted (pos v) e =
    let h = ltb→lt v (length class) (and_out (ltb v (length class)) (eqb (get_or class v other) wanted) (T_true (ltb v (length class) && eqb (get_or class v other) wanted) e)).0 in
    (omega (arith, ints), omega (arith, ints, h))
class_index class wanted (negsuc v) e = absurd (T_true false e)
