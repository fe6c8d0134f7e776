-- Each return is the case of its test.
use mathlib.Core.Path.{refl, ◌∙◌}
use mir.Syntax.{w64}
use mir.Val.{SFits}
use mir.Facts.{to_z-of_z}
use borrow.Author.Rules.{rules}
use Rattle.normalisation.proofs.Bounds.{int_min-is}
use Rattle.verdicts.specs.OnePass.{lower}
use Rattle.verdicts.proofs.lower.Goals as goal

pub returns-then-least-lt0 : goal.returns-then-least-lt0
unfolding lower
returns-then-least-lt0 c =
    let f : SFits w64 c.args.least.0 = search rules in
    let e = simp (to_z-of_z, f) at c.if-least-lt0.true in
    simp (to_z-of_z, c.ranges.next) (rw e refl)

pub returns-else-least-lt0 : goal.returns-else-least-lt0
unfolding lower
returns-else-least-lt0 c =
    let f : SFits w64 c.args.least.0 = search rules in
    let low : SFits w64 c.min.result = search rules in
    let e = simp (to_z-of_z, f) at c.if-least-lt0.false in
    let lower = (simp (to_z-of_z, f, c.ranges.next) at c.min.ensures.value) ∙ int_min-is c.args.least.0 c.args.next in
    simp (to_z-of_z, low) (rw e lower)
