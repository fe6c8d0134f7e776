-- Invariant: the first v classes are those of the kinds, the others as at entry.
use mathlib.Core.Path.{◌≡◌}
use Rattle.paircheck.proofs.Classes.{kinds_up_to}
use Rattle.paircheck.proofs.classify_kinds.Given as goal

abbrev pub invariant-loop-v : goal.invariant-loop-v
invariant-loop-v l = l.class ≡ kinds_up_to l.nodes l.initial.class l.v
