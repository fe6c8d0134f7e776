-- One case for each outcome of the tests.
use mathlib.Core.Path.{◌≡◌, refl}
use mathlib.Core.Bool.{Bool, cond}
use native.Mathlib.Omega.{arith}
use lib.IntN.{ℤ}
use lib.Signed.{le_z, lt_z, ◌≤ℤ◌, ◌<ℤ◌}
use borrow.Author.Rules.{rules}
use mir.Syntax.{w64}
use mir.Val.{SFits}
use mir.Facts.{to_z-of_z}
use Rattle.std.specs.Int.{int_min}
use Rattle.integers.specs.Integers.{min_z}
use Rattle.integers.proofs.Linear.{ints}
use Rattle.integers.proofs.Tests.{Test, passed, failed, le?, lt?}
use Rattle.model.specs.Compare.{lower_of}
use Rattle.bothkinds.proofs.lower_of.Goals as goal

-- the library's lower of two numbers is the model's
lower_same : (a b : ℤ) → int_min a b ≡ min_z a b
lower_same a b = go (lt_z b a) (le_z a b) (lt? b a) (le? a b)
  where
    go : (t u : Bool) → Test (b <ℤ a) (a ≤ℤ b) t → Test (a ≤ℤ b) (b <ℤ a) u → cond t b a ≡ cond u a b
    go t u (passed h) (passed k) = absurd (omega (arith, ints, h, k))
    go t u (passed h) (failed k) = refl
    go t u (failed h) (passed k) = refl
    go t u (failed h) (failed k) = absurd (omega (arith, ints, h, k))

pub returns-then-one-lt0 : goal.returns-then-one-lt0
unfolding lower_of
returns-then-one-lt0 c =
    rw (to_z-of_z c.ranges.other, simp (to_z-of_z, c.ranges.one) at c.if-one-lt0.true) refl

pub returns-then-other-lt0 : goal.returns-then-other-lt0
unfolding lower_of
returns-then-other-lt0 c =
    rw (to_z-of_z c.ranges.one, simp (to_z-of_z, c.ranges.one) at c.if-one-lt0.false, simp (to_z-of_z, c.ranges.other) at c.if-other-lt0.true) refl

pub returns-else-other-lt0 : goal.returns-else-other-lt0
unfolding lower_of
returns-else-other-lt0 c =
    let fits : SFits w64 c.min.result = search rules in
    rw (
      to_z-of_z fits,
      simp (to_z-of_z, c.ranges.one) at c.if-one-lt0.false,
      simp (to_z-of_z, c.ranges.other) at c.if-other-lt0.false,
      simp (to_z-of_z, c.ranges.one, c.ranges.other) at c.min.ensures.value,
    ) (lower_same c.args.one c.args.other)
