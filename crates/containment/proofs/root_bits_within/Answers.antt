-- The first test decides, or leaves it to the second.
use mathlib.Core.Path.{refl}
use mir.Syntax.{w64}
use mir.Val.{SFits}
use mir.Facts.{to_z-of_z}
use borrow.Author.Rules.{rules}
use Rattle.containment.proofs.root_bits_within.Goals as goal

pub returns-then-s-r : goal.returns-then-s-r
returns-then-s-r c =
    let f : SFits w64 c.args.r.second = search rules in
    let g : SFits w64 c.args.s.second = search rules in
    let p : SFits w64 c.args.r.third = search rules in
    let q : SFits w64 c.args.s.third = search rules in
    let e = simp (to_z-of_z, f, g) at c.if-s-r.true in
    simp (to_z-of_z, p, q) (rw e refl)

pub returns-else-s-r : goal.returns-else-s-r
returns-else-s-r c =
    let f : SFits w64 c.args.r.second = search rules in
    let g : SFits w64 c.args.s.second = search rules in
    let e = simp (to_z-of_z, f, g) at c.if-s-r.false in
    simp (to_z-of_z, f, g) (rw e refl)
