-- The first number is the leaf bit that was computed.
use mathlib.Core.Path.{refl}
use borrow.Author.Rules.{rules}
use mir.Syntax.{w64}
use mir.Val.{SFits}
use mir.Facts.{to_z-of_z}
use Rattle.listing.proofs.BitsWalker.leaf_row.Goals as goal

pub returns : goal.returns
returns c es =
    let f : SFits w64 c.leaf_bit.result.0 = search rules in
    rw (to_z-of_z f, c.leaf_bit.ensures es) refl
