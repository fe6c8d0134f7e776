-- Two kinds of walk: what holds of each, the worse of two verdicts, and the lower of two addresses that are there.
use mathlib.Core.Path.{◌≡◌, refl}
use mathlib.Core.Bool.{Bool, cond}
use mathlib.Core.Logic.{◌↔◌}
use Prim.Native.Nat.{ℕ, max}
use native.Mathlib.Omega.{arith}
use lib.IntN.{ℤ, pos, negsuc}
use lib.Signed.{lt_z, ◌≤ℤ◌, ◌<ℤ◌}
use Rattle.integers.specs.Integers.{min_z}
use Rattle.integers.proofs.Linear.{ints}
use Rattle.integers.proofs.Tests.{Test, passed, failed, lt?}
use Rattle.model.specs.declared.WalkKind.{WalkKind}
use Rattle.model.specs.declared.WalkKind.TheVariants.{Reading, Writing}
use Rattle.model.specs.Compare.{lower_of}

-- what holds of reading and of writing holds of every kind
pub of_kinds : (P : WalkKind → Type 0) → P Reading → P Writing → (kind : WalkKind) → P kind
of_kinds P r w Reading = r
of_kinds P r w Writing = w

-- the worse of two verdicts is 0 exactly where that of each kind is
pub worse_zero : (v : WalkKind → ℕ) → (max (v Reading) (v Writing) ≡ 0) ↔ ((kind : WalkKind) → v kind ≡ 0)
worse_zero v = (
  λ e. of_kinds (λ kind. v kind ≡ 0) (omega arith) (omega arith),
  λ h. let a = h Reading in let b = h Writing in omega arith,
)

-- ---- the lower of two addresses that are there

-- where the first is none
pub lower-none : (b : ℤ) → lower_of (negsuc 0) b ≡ b
unfolding lower_of
lower-none b = refl

-- where the second is none
pub lower-first : (a : ℤ) → pos 0 ≤ℤ a → lower_of a (negsuc 0) ≡ a
unfolding lower_of
lower-first a h = go (lt_z a (pos 0)) (lt? a (pos 0))
  where
    go : (t : Bool) → Test (a <ℤ pos 0) (pos 0 ≤ℤ a) t → cond t (negsuc 0) a ≡ a
    go t (passed k) = absurd (omega (arith, ints))
    go t (failed k) = refl

-- where both are there
pub lower_both : (a b : ℤ) → pos 0 ≤ℤ a → pos 0 ≤ℤ b → lower_of a b ≡ min_z a b
unfolding lower_of
lower_both a b h k = go (lt_z a (pos 0)) (lt_z b (pos 0)) (lt? a (pos 0)) (lt? b (pos 0))
  where
    go : (t u : Bool) → Test (a <ℤ pos 0) (pos 0 ≤ℤ a) t → Test (b <ℤ pos 0) (pos 0 ≤ℤ b) u → cond t b (cond u a (min_z a b)) ≡ min_z a b
    go t u (passed x) y = absurd (omega (arith, ints))
    go t u (failed x) (passed y) = absurd (omega (arith, ints))
    go t u (failed x) (failed y) = refl
