-- A product with a number that is not negative, on the parts, and its bounds.
use mathlib.Core.Path.{◌≡◌, refl, sym, subst, ◌∙◌}
use Prim.Native.Nat.{ℕ, suc, ◌*◌, ◌≤◌}
use native.Mathlib.Nat.{mul-le-mul}
use native.Mathlib.Omega.{arith}
use lib.IntN.{ℤ, pos, negsuc, ◌*ℤ◌}
use Rattle.integers.proofs.Linear.{plus, minus, neg}

times_pos : (x : ℤ) (u : ℕ) → (plus (x *ℤ pos u) ≡ plus x * u) × (minus (x *ℤ pos u) ≡ minus x * u)
times_pos (pos a) u = (refl, omega arith)
times_pos (negsuc a) u = ((neg (pos (suc a * u))).0 ∙ omega arith, (neg (pos (suc a * u))).1)

pub pos_plus : (x : ℤ) → minus x ≡ 0 → pos (plus x) ≡ x
pos_plus (pos a) h = refl
pos_plus (negsuc a) h = absurd (omega arith)

-- the parts of a product whose second factor is not negative
pub times : (x y : ℤ) → minus y ≡ 0 → (plus (x *ℤ y) ≡ plus x * plus y) × (minus (x *ℤ y) ≡ minus x * plus y)
times x y h = subst (λ (z : ℤ). (plus (x *ℤ z) ≡ plus x * plus y) × (minus (x *ℤ z) ≡ minus x * plus y)) (pos_plus y h) (times_pos x (plus y))

-- |x| ≤ A and 0 ≤ y ≤ B: |x·y| ≤ A-as-B
pub times_bound : (A B : ℕ) (x y : ℤ) → plus x ≤ A → minus x ≤ A → minus y ≡ 0 → plus y ≤ B → (plus (x *ℤ y) ≤ A * B) × (minus (x *ℤ y) ≤ A * B)
times_bound A B x y hu hd h0 hy =
    (subst (λ (n : ℕ). n ≤ A * B) (sym (times x y h0).0) (mul-le-mul hu hy), subst (λ (n : ℕ). n ≤ A * B) (sym (times x y h0).1) (mul-le-mul hd hy))
