-- The range that is asked is that of the root bits.
use Rattle.std.proofs.Common.{◌≡◌, arith, rules}
use Rattle.std.proofs.lemmas.Grind.{common_steps}
use Rattle.std.specs.Ordering.{partial_le}
use Rattle.std.specs.contracts.prelude.I64PartialOrd.TheImpl.{partial_cmp-value}
use lib.IntN.{ℤ}
use lib.Signed.{le_z}
use mir.Syntax.{w64}
use mir.Val.{SFits}
use mir.Facts.{to_z-of_z}
use Rattle.model.specs.Verdicts.{has_bit}
use Rattle.batchrows.proofs.has_bit.Goals as goal

le_is : (a b : ℤ) → partial_le partial_cmp-value.it a b ≡ le_z a b
le_is a b = grind (arith, common_steps)

pub returns : goal.returns
unfolding has_bit
returns c =
    let f : SFits w64 c.args.s.first = search rules in
    let l : SFits w64 c.args.s.last = search rules in
    let asked = c.new.ensures in
    simp (asked.start, asked.end, asked.exhausted, to_z-of_z, f, l, c.ranges.address, le_is) at c.contains.ensures.value
