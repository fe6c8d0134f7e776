-- The range of an i64: which numbers fit, what a flag of a signed test says, and what a test on the bits of two numbers does.
use mathlib.Core.Path.{◌≡◌, refl, sym, ap, subst, ◌∙◌}
use mathlib.Core.Bool.{Bool, true, false, not}
use mathlib.Core.Logic.{◌≢◌}
use Prim.Native.Nat.{◌+◌, ◌≤◌, ◌<◌, ◌^◌}
use native.Mathlib.Omega.{arith}
use lib.Dec.{T, eqb}
use lib.IntN.{ℤ, pos, negsuc}
use lib.Signed.{le_z, lt_z, ◌≤ℤ◌, ◌<ℤ◌, le_z_yes, lt_z_yes, lt_z_no}
use mir.Val.{SFits, of_z, to_z}
use mir.Facts.{to_z-of_z}
use mir.Syntax.{w64}
use Rattle.integers.specs.Integers.{eq_z}
use Rattle.integers.proofs.Linear.{plus, minus}
use Rattle.integers.proofs.Tests.{Test, passed, failed, eq?, eq_z?}

pub fits64 : {z : ℤ} → (plus z < 2 ^ 63 + minus z) × (minus z ≤ 2 ^ 63 + plus z) → SFits w64 z
fits64 {z = pos n} h = record { sfits = omega (arith, h.0) }
fits64 {z = negsuc n} h = record { sfits = omega (arith, h.1) }

pub range64 : {z : ℤ} → SFits w64 z → (plus z < 2 ^ 63) × (minus z ≤ 2 ^ 63)
range64 {z = pos n} h = omega (arith, h.sfits)
range64 {z = negsuc n} h = omega (arith, h.sfits)

pub lt_z_true : (a b : ℤ) → lt_z a b ≡ true → a <ℤ b
lt_z_true a b e = lt_z_yes (subst T (sym e) tt)

pub lt_z_false : (a b : ℤ) → lt_z a b ≡ false → b ≤ℤ a
lt_z_false a b e = lt_z_no (subst (λ (t : Bool). T (not t)) (sym e) tt)

pub le_z_true : (a b : ℤ) → le_z a b ≡ true → a ≤ℤ b
le_z_true a b e = le_z_yes (subst T (sym e) tt)

-- ---- bits of numbers

-- numbers of 64 bits with the same bits are the same
pub bits-same : {a b : ℤ} → SFits w64 a → SFits w64 b → of_z w64 a ≡ of_z w64 b → a ≡ b
bits-same f g e = sym (to_z-of_z f) ∙ ap (to_z w64) e ∙ to_z-of_z g

-- the test on the bits is that on the numbers
pub bits_test : (a b : ℤ) → SFits w64 a → SFits w64 b → eqb (of_z w64 a) (of_z w64 b) ≡ eq_z a b
bits_test a b f g = go (eqb (of_z w64 a) (of_z w64 b)) (eq_z a b) (eq? (of_z w64 a) (of_z w64 b)) (eq_z? a b)
  where
    go : (s t : Bool) → Test (of_z w64 a ≡ of_z w64 b) (of_z w64 a ≢ of_z w64 b) s → Test (a ≡ b) (a ≢ b) t → s ≡ t
    go true true p q = refl
    go true false (passed p) (failed n) = absurd (n (bits-same f g p))
    go false true (failed n) (passed q) = absurd (n (ap (of_z w64) q))
    go false false p q = refl
