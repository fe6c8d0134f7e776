-- The sum decides where both numbers keep their limits; else the number that does not.
use native.Mathlib.Omega.{arith}
use lib.IntN.{pos}
use lib.Signed.{◌≤ℤ◌}
use Rattle.std.proofs.lemmas.Grind.{common_steps}
use Rattle.std.proofs.lemmas.Int.{ints}
use Rattle.model.specs.Checks.{good_extent}
use Rattle.tables.specs.Tables.{node_of}
use Rattle.tables.proofs.Limits.{extent_end}
use Rattle.tables.proofs.good_extent.Goals.{then-contains, else-contains}
use Rattle.tables.proofs.good_extent.Goals as goal

pub returns-then-contains-2 : goal.returns-then-contains-2
unfolding good_extent
returns-then-contains-2 c =
    elim c.if-contains.branch [
      | then-contains w ↦
          let low : pos 0 ≤ℤ c.args.n.base.0 = grind (arith, common_steps, ints) in
          let some : pos 1 ≤ℤ c.args.n.range.0 = grind (arith, common_steps, ints) in
          grind (arith, ints, extent_end (node_of 0 c.args.n) c.plus.result.0 low some c.plus.ensures)
      | else-contains w ↦ grind (arith, common_steps, ints)
    ]

pub returns-else-contains-2 : goal.returns-else-contains-2
unfolding good_extent
returns-else-contains-2 c = elim c.if-contains.branch [ then-contains w ↦ grind (arith, common_steps, ints) | else-contains w ↦ grind (arith, common_steps, ints) ]
