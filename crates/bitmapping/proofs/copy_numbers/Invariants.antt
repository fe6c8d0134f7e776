-- The invariant: k numbers are copied, and the rest is as it was.
use mathlib.Core.Path.{◌≡◌}
use mathlib.Core.List.{◌++◌}
use lib.ListN.{drop}
use Rattle.bitmapping.specs.Copying.{spaced}
use Rattle.bitmapping.proofs.copy_numbers.Given as goal

abbrev pub invariant-loop-k : goal.invariant-loop-k
invariant-loop-k l = l.x-items ≡ spaced l.from l.first l.step l.k ++ drop l.k l.initial.x-items
