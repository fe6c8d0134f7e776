-- The caller that has a number.
use mathlib.Core.Path.{◌≡◌, refl, ap, ◌∙◌}
use mathlib.Core.Bool.{Bool, true, false, cond}
use mathlib.Core.Logic.{◌↔◌}
use mathlib.Core.Option.{Option, none, some}
use Prim.Native.Nat.{ℕ, ◌≤◌, ◌<◌}
use native.Mathlib.Omega.{arith}
use lib.Dec.{ltb}
use lib.IntN.{ℤ, pos, negsuc}
use Rattle.integers.proofs.Tests.{Test, passed, failed, ltb?}
use Rattle.integers.proofs.Linear.{ints}
use Rattle.model.specs.Limits.{callers}
use Rattle.model.specs.Tally.{Caller, caller_of}

caller-is : (k : ℕ) → k < callers → caller_of (pos k) ≡ some k
unfolding caller_of
caller-is k h = go (ltb k callers) (ltb? k callers)
  where
    go : (b : Bool) → Test (k < callers) (callers ≤ k) b → cond b (some k) none ≡ some k
    go true t = refl
    go false (failed n) = absurd (omega arith)

caller_only : (z : ℤ) {k : ℕ} → caller_of z ≡ some k → (z ≡ pos k) × (k < callers)
unfolding caller_of
caller_only (pos j) {k} e = go (ltb j callers) (ltb? j callers) e
  where
    go : (b : Bool) → Test (j < callers) (callers ≤ j) b → cond b (some j) none ≡ some k → (pos j ≡ pos k) × (k < callers)
    go true (passed h) e = let q : j ≡ k = cc in (ap pos q, omega (arith, q, h))
    go false t e = absurd (let z : ◌≡◌ {A = ℕ} 0 1 = cc in omega arith)
caller_only (negsuc j) e = absurd (let z : ◌≡◌ {A = ℕ} 0 1 = cc in omega arith)

-- a number is that of caller k exactly if it is k, and k is one of sixteen
pub caller-some : (z : ℤ) (k : ℕ) → (caller_of z ≡ some k) ↔ ((z ≡ pos k) × (k < callers))
caller-some z k = (caller_only z, λ w. ap caller_of w.0 ∙ caller-is k w.1)

-- the number of a caller lies in 0..15
pub caller-within : (z : ℤ) (k : ℕ) → caller_of z ≡ some k → Caller z
caller-within z k e =
    let w = (caller-some z k).0 e in
    rw w.0 (record { low = omega (arith, ints); high = omega (arith, ints, w.1) })

outside-none : (z : ℤ) (o : Option ℕ) → caller_of z ≡ o → (Caller z → ⊥) → caller_of z ≡ none
outside-none z none e outside = e
outside-none z (some k) e outside = absurd (outside (caller-within z k e))

none-outside : (z : ℤ) → caller_of z ≡ none → Caller z → ⊥
none-outside (pos j) e h =
    let is = caller-is j (omega (arith, ints, h.high)) in
    let z : ◌≡◌ {A = ℕ} 0 1 = cc in
    omega arith
none-outside (negsuc j) e h = omega (arith, ints, h.low)

-- a number is no caller's exactly if it lies outside 0..15
pub caller-none : (z : ℤ) → (caller_of z ≡ none) ↔ (Caller z → ⊥)
caller-none z = (none-outside z, outside-none z (caller_of z) refl)

-- and a number in 0..15 is some caller's
pub caller-known : (z : ℤ) → Caller z → (k : ℕ) × (caller_of z ≡ some k)
caller-known z h = go (caller_of z) refl
  where
    go : (o : Option ℕ) → caller_of z ≡ o → (k : ℕ) × (caller_of z ≡ some k)
    go none e = absurd (none-outside z e h)
    go (some k) e = (k, e)
