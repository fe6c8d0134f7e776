-- Past the test of the displacements, each call answers one half of touch.
use mathlib.Core.Path.{◌≡◌, sym, ap, ◌∙◌}
use borrow.Author.Rules.{rules}
use lib.IntN.{pos, ◌+ℤ◌}
use lib.Signed.{le_z}
use mir.Syntax.{w64}
use mir.Val.{SFits, of_z, to_z}
use mir.Facts.{to_z-of_z}
use Rattle.normalisation.specs.Merging.{of_displacement}
use Rattle.normalisation.proofs.Touching.{touch_unlike, touch_like}
use Rattle.normalisation.proofs.touches.Goals.{After-meets, Else-r-s}
use Rattle.normalisation.proofs.touches.Goals as goal

-- past the first test
like : (c : Else-r-s) → c.args.r.first ≡ c.args.s.first
like c =
    let f : SFits w64 c.args.r.first = search rules in
    let g : SFits w64 c.args.s.first = search rules in
    sym (to_z-of_z f) ∙ ap (to_z w64) c.if-r-s.false ∙ to_z-of_z g

pub returns-then-r-s : goal.returns-then-r-s
returns-then-r-s c =
    sym (touch_unlike (of_displacement c.args.r) (of_displacement c.args.s) (λ e. c.if-r-s.true (ap (of_z w64) e)))

pub meets-requires : goal.meets-requires
meets-requires c =
    let f : SFits w64 c.args.r.third = search rules in
    rw (to_z-of_z f) c.requires.0.high

pub meets-requires-then-meets : goal.meets-requires-then-meets
meets-requires-then-meets c =
    let f : SFits w64 c.args.s.third = search rules in
    rw (to_z-of_z f) c.requires.1.high

-- what the first call says
test : (c : After-meets) → le_z c.args.s.second (c.args.r.third +ℤ pos 1) ≡ c.meets.result
test c =
    let f : SFits w64 c.args.r.third = search rules in
    let g : SFits w64 c.args.s.second = search rules in
    sym (simp (to_z-of_z, f, g) at c.meets.ensures)

pub returns-then-meets : goal.returns-then-meets
returns-then-meets c =
    let f : SFits w64 c.args.s.third = search rules in
    let g : SFits w64 c.args.r.second = search rules in
    rw (touch_like (of_displacement c.args.r) (of_displacement c.args.s) (like (goal.at.returns-then-meets c).Else-r-s), test (goal.at.returns-then-meets c).After-meets ∙ c.if-meets.true)
    (simp (to_z-of_z, f, g) at c.meets-then-meets.ensures)

pub returns-else-meets : goal.returns-else-meets
returns-else-meets c =
    rw (touch_like (of_displacement c.args.r) (of_displacement c.args.s) (like (goal.at.returns-else-meets c).Else-r-s), test (goal.at.returns-else-meets c).After-meets ∙ c.if-meets.false) c.if-meets.false
