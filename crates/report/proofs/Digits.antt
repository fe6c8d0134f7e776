-- The decimal digits of a number, one step at a time, and how many there are.
use mathlib.Core.Path.{◌≡◌, refl, ap, ◌∙◌}
use mathlib.Core.Bool.{Bool, true, false}
use mathlib.Core.List.{[], ◌∷◌, ◌++◌}
use Prim.Native.Nat.{ℕ, zero, suc, ◌+◌, ◌-◌, ◌/◌, ◌%◌, ◌^◌, ◌≤◌, ◌<◌}
use native.Mathlib.Nat.{pow-suc}
use native.Mathlib.Omega.{arith}
use borrow.Author.Tests.{lt-ltb, le-ltb}
use lib.IntN.{ℤ, pos, negsuc, nat_abs}
use lib.Signed.{◌≤ℤ◌, ◌<ℤ◌}
use lib.ListN.{length, length-append}
use lib.Dec.{ltb}
use Rattle.integers.proofs.Tests.{Test, passed, failed, ltb?}
use Rattle.integers.proofs.Linear.{ints}
use Rattle.model.specs.Bytes.{dash, digits, shown}

less_one : (k : ℕ) → suc k - 1 ≡ k
less_one k = omega arith

-- no digits where none may come
pub digits-none : (k n : ℕ) → k ≡ 0 → digits k n ≡ []
unfolding digits
digits-none zero n e = refl
digits-none (suc k) n e = absurd (omega arith)

-- a number below ten is one digit
pub digits_one : (k n : ℕ) → (k ≡ 0 → ⊥) → n < 10 → digits k n ≡ (48 + n) ∷ []
unfolding digits
digits_one zero n z h = absurd (z refl)
digits_one (suc k) n z h = rw (lt-ltb n 10 h, digits) refl

-- another number is the digits of its tenth, and its last digit
pub digits_more : (k n : ℕ) → (k ≡ 0 → ⊥) → 10 ≤ n → digits k n ≡ digits (k - 1) (n / 10) ++ ((48 + n % 10) ∷ [])
unfolding digits
digits_more zero n z h = absurd (z refl)
digits_more (suc k) n z h = rw (less_one k, le-ltb n 10 h, digits) refl

-- it has one digit more than its tenth
pub digits-more_length : (k n : ℕ) → (k ≡ 0 → ⊥) → 10 ≤ n → length (digits k n) ≡ length (digits (k - 1) (n / 10)) + 1
digits-more_length k n z h = ap length (digits_more k n z h) ∙ length-append (digits (k - 1) (n / 10)) ((48 + n % 10) ∷ [])

-- at most one digit more than its tenth
digits_step : (k n b : ℕ) → length (digits k (n / 10)) ≤ b → length (digits (suc k) n) ≤ suc b
digits_step k n b i = go (ltb n 10) (ltb? n 10) (rw (less_one k) i)
  where
    go : (t : Bool) → Test (n < 10) (10 ≤ n) t → length (digits (suc k - 1) (n / 10)) ≤ b → length (digits (suc k) n) ≤ suc b
    go true (passed h) i = omega (arith, ap length (digits_one (suc k) n (λ e. omega arith) h))
    go false (failed h) i = omega (arith, digits-more_length (suc k) n (λ e. omega arith) h)

-- no more digits than there may be
pub digits-short : (k n : ℕ) → length (digits k n) ≤ k
digits-short zero n = omega (arith, ap length (digits-none 0 n refl))
digits-short (suc k) n = digits_step k n k (digits-short k (n / 10))

-- a number below 10^m has at most m digits, where m is not 0
pub digits-within : (k n m : ℕ) → n < 10 ^ suc m → length (digits k n) ≤ suc m
digits-within zero n m h = omega (arith, ap length (digits-none 0 n refl))
digits-within (suc k) n zero h = omega (arith, ap length (digits_one (suc k) n (λ e. omega arith) (omega arith)))
digits-within (suc k) n (suc m) h = digits_step k n (suc m) (digits-within k (n / 10) m (omega (arith, pow-suc 10 (suc m))))

-- a negative number has a minus before the digits of its distance from 0
pub shown-negative : (v : ℤ) → v <ℤ pos 0 → shown v ≡ dash ∷ digits 20 (nat_abs v)
unfolding shown
shown-negative (pos n) h = absurd (omega (arith, ints))
shown-negative (negsuc n) h = refl

-- another number is its digits
pub shown-other : (v : ℤ) → pos 0 ≤ℤ v → shown v ≡ digits 20 (nat_abs v)
unfolding shown
shown-other (pos n) h = refl
shown-other (negsuc n) h = absurd h.le
