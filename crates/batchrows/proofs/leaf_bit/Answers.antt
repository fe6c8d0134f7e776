-- The root bit less the displacement.
use mathlib.Core.Path.{refl, ◌∙◌}
use mir.Syntax.{w64}
use mir.Val.{SFits}
use mir.Facts.{to_z-of_z}
use borrow.Author.Rules.{rules}
use Rattle.batchrows.proofs.leaf_bit.Goals as goal

pub less-requires : goal.less-requires
less-requires c =
    let d : SFits w64 c.args.s.displacement = search rules in
    rw (simp (to_z-of_z, c.ranges.address) at c.of.ensures, simp (to_z-of_z, d) at c.of-2.ensures) c.requires

pub returns : goal.returns
returns c =
    let d : SFits w64 c.args.s.displacement = search rules in
    c.less.ensures ∙ rw (simp (to_z-of_z, c.ranges.address) at c.of.ensures, simp (to_z-of_z, d) at c.of-2.ensures) refl
