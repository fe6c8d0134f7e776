-- Each number that was read is the one that is held.
use mathlib.Core.Path.{◌∙◌}
use Prim.Native.Nat.{◌+◌, ◌*◌}
use native.Mathlib.Omega.{arith}
use borrow.Author.Rules.{sfits_of}
use lib.IntN.{pos}
use lib.ListN.{get_or}
use lib.Signed.{◌≤ℤ◌}
use mir.Syntax.{w64}
use mir.Facts.{to_z-of_z}
use Rattle.integers.proofs.Linear.{ints}
use Rattle.tables.proofs.Cells.{index_fits}
use Rattle.holding.specs.Held.{held_width}
use Rattle.holding.proofs.Holding.{cast_back, found-same}
use Rattle.holding.proofs.held_at.Goals as goal

pub overflow_cast-lengths : goal.overflow_cast-lengths
overflow_cast-lengths c =
    let low : pos 0 ≤ℤ get_or c.args.held.now (held_width * c.args.group + 1) (pos 0) = omega (arith, ints, c.requires.at.spec) in
    index_fits (sfits_of {w = w64} c.spec-1.given) low

pub overflow_cast-lengths-2 : goal.overflow_cast-lengths-2
overflow_cast-lengths-2 c =
    let low : pos 0 ≤ℤ get_or c.args.held.now (held_width * c.args.group + 2) (pos 0) = omega (arith, ints, c.requires.at.impl) in
    index_fits (sfits_of {w = w64} c.implementation-1.given) low

pub returns : goal.returns
returns c f h =
    let judged = sfits_of {w = w64} c.judged-1.given in
    let address = sfits_of {w = w64} c.address-1.given in
    found-same (c.verdict_with.ensures f.verdict (to_z-of_z judged ∙ h.verdict)) (cast_back (sfits_of {w = w64} c.spec-1.given) h.spec)
    (cast_back (sfits_of {w = w64} c.implementation-1.given) h.impl) (to_z-of_z address ∙ h.address)
