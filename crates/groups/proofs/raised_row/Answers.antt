-- The displacement is raised, and the bits stay.
use mathlib.Core.Path.{refl}
use borrow.Author.Rules.{rules}
use mir.Syntax.{w64}
use mir.Val.{SFits}
use mir.Facts.{to_z-of_z}
use Rattle.model.specs.Groups.{raised_by}
use Rattle.groups.proofs.raised_row.Goals as goal

pub raised_displacement-requires : goal.raised_displacement-requires
raised_displacement-requires c =
    let f : SFits w64 c.args.row.first = search rules in
    rw (to_z-of_z f) c.requires

pub returns : goal.returns
unfolding raised_by
returns c =
    let displacement : SFits w64 c.raised_displacement.result.0 = search rules in
    let first : SFits w64 c.args.row.first = search rules in
    let second : SFits w64 c.args.row.second = search rules in
    let third : SFits w64 c.args.row.third = search rules in
    rw (to_z-of_z displacement, to_z-of_z second, to_z-of_z third, c.raised_displacement.ensures, to_z-of_z first) refl
