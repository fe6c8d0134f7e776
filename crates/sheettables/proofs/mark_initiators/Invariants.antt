-- The invariant: the initiators of the first k lines are marked.
use mathlib.Core.Path.{◌≡◌}
use Rattle.sheettables.specs.Parts.{marked}
use Rattle.sheettables.proofs.mark_initiators.Given as goal

abbrev pub invariant-loop-k : goal.invariant-loop-k
invariant-loop-k l = l.spaces ≡ marked l.lines l.k l.initial.spaces
