-- The code of a refusal: a number below 0.
use mathlib.Core.Path.{◌≡◌, sym, ap, ◌∙◌}
use Prim.Native.Nat.{ℕ, ◌<◌, ◌^◌}
use lib.IntN.{ℤ, pos, neg_ℤ, ◌-ℤ◌, neg_ℤ-neg_ℤ}
use mir.Syntax.{w64}
use mir.Val.{to_z, of_z}
use Rattle.integers.proofs.Negation.{negated}

-- twice negated
pub negated_twice : (n : ℕ) → pos n ≡ neg_ℤ (neg_ℤ (pos n))
negated_twice n = sym (neg_ℤ-neg_ℤ (pos n))

-- what is returned for a number whose negation is a code
pub negated_code : {n : ℕ} (z : ℤ) → n < 2 ^ 63 → pos n ≡ neg_ℤ z → to_z w64 (of_z w64 (pos 0 -ℤ to_z w64 n)) ≡ z
negated_code z low e = negated low ∙ ap neg_ℤ e ∙ neg_ℤ-neg_ℤ z
