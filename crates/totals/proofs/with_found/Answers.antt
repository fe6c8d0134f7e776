-- Each part of the result, by the function that it is made by.
use native.Mathlib.Omega.{arith}
use borrow.Author.Rules.{rules}
use mir.Syntax.{w64}
use mir.Val.{SFits}
use mir.Facts.{to_z-of_z, to_z_pos}
use Rattle.totals.proofs.Results.{result_parts}
use Rattle.totals.proofs.with_found.Goals.{After-first_place-first, Start}
use Rattle.totals.proofs.with_found.Goals as goal

placed : (f : After-first_place-first) → let r = f.first_place-first.result in SFits w64 r.root × SFits w64 r.leaf × SFits w64 r.address
placed f = search rules

given : (s : Start) → let r = s.args.res in SFits w64 r.root × SFits w64 r.leaf × SFits w64 r.address × SFits w64 s.args.address
given s = search rules

pub returns : goal.returns
returns c =
    result_parts _ _ _ c.counted.ensures c.counted-2.ensures c.counted-3.ensures c.higher.ensures
    (rw (to_z-of_z (placed (goal.at.returns c).After-first_place-first).0, to_z-of_z (placed (goal.at.returns c).After-first_place-first).1, to_z-of_z (placed (goal.at.returns c).After-first_place-first).2)
    (rw (
      to_z_pos w64 {n = c.args.root_row} (omega (arith, c.requires.1)),
      to_z_pos w64 {n = c.args.leaf_row} (omega (arith, c.requires.2)),
      to_z-of_z (given (goal.at.returns c).Start).3,
      to_z-of_z (given (goal.at.returns c).Start).0,
      to_z-of_z (given (goal.at.returns c).Start).1,
      to_z-of_z (given (goal.at.returns c).Start).2,
    ) at c.first_place-first.ensures))
