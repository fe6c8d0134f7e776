-- A number below 0 is no caller; any other is its own, and is one of sixteen or not.
use Rattle.std.specs.Prelude as std
use Rattle.std.specs.Prelude.{Result, Ok, Err}
use Rattle.std.specs.Bool.{then_some}
use Rattle.std.specs.Int.{FitsUnsignedBits}
use Rattle.std.specs.Result.{OkIff, result_ok}
use mathlib.Core.Path.{◌≡◌, refl, sym}
use mathlib.Core.Bool.{Bool, true, false, cond}
use mathlib.Core.Option.{none, some}
use native.Mathlib.Omega.{arith}
use Prim.Native.Nat.{ℕ}
use lib.IntN.{ℤ, pos, negsuc, nat_abs}
use mir.Facts.{to_z-of_z}
use Rattle.integers.proofs.Linear.{ints}
use Rattle.model.specs.Tally.{Caller, caller_of}
use Rattle.model.proofs.Tally.{caller-none}
use Rattle.tally.specs.Callers.{caller_named}
use Rattle.tally.proofs.who_asks.Goals as goal

module _ {E : Type 0} where
  -- a number that does not fit is no caller
  outside : (z : ℤ) (r : Result ℕ E) → OkIff r (FitsUnsignedBits 64 z) (nat_abs z) → ◌≡◌ {A = std.Option ℕ} std.None (result_ok r) → caller_of z ≡ none
  outside z (Ok x) o e = cc
  outside (pos n) (Err d) o e = (caller-none (pos n)).1 (λ (h : Caller (pos n)). o (omega (arith, ints, h.high)))
  outside (negsuc n) (Err d) o e = (caller-none (negsuc n)).1 (λ (h : Caller (negsuc n)). omega (arith, ints, h.low))

  -- one that fits is its own number
  inside : (z : ℤ) (r : Result ℕ E) (k : ℕ) → OkIff r (FitsUnsignedBits 64 z) (nat_abs z) → ◌≡◌ {A = std.Option ℕ} (std.Some k) (result_ok r) → z ≡ pos k
  inside (pos n) (Ok x) k o e = let own : x ≡ n = o.1 in cc
  inside (negsuc n) (Ok x) k o e = absurd o.0
  inside z (Err d) k o e = cc

-- a caller where the test passed
named : (b : Bool) (k : ℕ) → caller_named (then_some b k) ≡ cond b (some k) none
named true k = refl
named false k = refl

pub returns-in_err-caller : goal.returns-in_err-caller
returns-in_err-caller c =
    rw c.from_residual.ensures (sym (outside c.args.number _ (simp (to_z-of_z, c.ranges.number) at c.try_from.ensures) c.in_err-caller.ensures.value))

pub returns : goal.returns
unfolding caller_of
returns c =
    rw (c.then_some.ensures, inside c.args.number _ _ (simp (to_z-of_z, c.ranges.number) at c.try_from.ensures) c.in_ok-caller.ensures.value)
    (named _ c.in_ok-caller.caller)
