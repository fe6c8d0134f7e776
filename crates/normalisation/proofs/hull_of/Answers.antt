-- The numbers of the hull are what the calls give.
use mathlib.Core.Path.{refl, ◌∙◌}
use borrow.Author.Rules.{rules}
use mir.Syntax.{w64}
use mir.Val.{SFits}
use mir.Facts.{to_z-of_z}
use Rattle.model.specs.Runs.{hull}
use Rattle.normalisation.proofs.Bounds.{int_min-is, int_max-is}
use Rattle.normalisation.proofs.hull_of.Goals as goal

pub returns : goal.returns
unfolding hull
returns c =
    let f : SFits w64 c.args.r.first = search rules in
    let f2 : SFits w64 c.args.r.second = search rules in
    let f3 : SFits w64 c.args.r.third = search rules in
    let g2 : SFits w64 c.args.s.second = search rules in
    let g3 : SFits w64 c.args.s.third = search rules in
    let low : SFits w64 c.min.result = search rules in
    let high : SFits w64 c.max.result = search rules in
    let lower = (simp (to_z-of_z, f2, g2) at c.min.ensures.value) ∙ int_min-is c.args.r.second c.args.s.second in
    let higher = (simp (to_z-of_z, f3, g3) at c.max.ensures.value) ∙ int_max-is c.args.r.third c.args.s.third in
    rw (to_z-of_z f, to_z-of_z low, to_z-of_z high, lower, higher) refl
