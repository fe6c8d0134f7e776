-- The invariant: the numbers below i stand at the front.
use mathlib.Core.Path.{◌≡◌}
use lib.Seq.{sets}
use Rattle.depth.specs.Passes.{up_to}
use Rattle.depth.proofs.number_rows.Given as goal

abbrev pub invariant-loop-i : goal.invariant-loop-i
invariant-loop-i l = l.row-items ≡ sets l.initial.row-items 0 (up_to l.i)
