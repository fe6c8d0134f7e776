-- Two stores.
use mathlib.Core.Path.{refl}
use native.Mathlib.Omega.{arith}
use lib.ListN.{length-set}
use mir.Syntax.{w64}
use mir.Val.{SFits}
use mir.Facts.{to_z-of_z, to_z_pos}
use borrow.Author.Rules.{rules}
use Rattle.batchrows.proofs.put_row.Goals as goal

pub bounds-out-n-2 : goal.bounds-out-n-2
bounds-out-n-2 c = simp length-set (omega arith)

pub returns : goal.returns
returns c =
    let b : SFits w64 c.args.bit.0 = search rules in
    rw (to_z-of_z b, to_z_pos w64 {n = c.args.place} (omega arith)) refl
