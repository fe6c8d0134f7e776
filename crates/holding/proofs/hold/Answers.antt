-- The four numbers are stored one after another: the number of the verdict and the lengths are small, and the address is an i64, so that each is stored as it is.
use native.Mathlib.Omega.{arith}
use lib.ListN.{length-set}
use mir.Facts.{to_z-of_z, to_z_pos}
use mir.Val.{SFits}
use mir.Syntax.{w64}
use borrow.Author.Rules.{rules}
use Rattle.holding.proofs.hold.Goals as goal

pub bounds-held-group-2 : goal.bounds-held-group-2
bounds-held-group-2 c = simp length-set (omega arith)

pub bounds-held-group-3 : goal.bounds-held-group-3
bounds-held-group-3 c = simp length-set (omega arith)

pub bounds-held-group-4 : goal.bounds-held-group-4
bounds-held-group-4 c = simp length-set (omega arith)

pub shape_of-held : goal.shape_of-held
shape_of-held c = simp length-set

pub returns : goal.returns
returns c =
    let v = c.verdict_number.ensures in
    let fits : SFits w64 c.args.found.address = search rules in
    rw (
      to_z_pos w64 {n = c.verdict_number.result} (omega (arith, v.1)),
      v.0,
      to_z_pos w64 {n = c.args.found.lengths.spec} (omega (arith, c.requires.1.spec)),
      to_z_pos w64 {n = c.args.found.lengths.implementation} (omega (arith, c.requires.1.impl)),
      to_z-of_z fits,
    )
