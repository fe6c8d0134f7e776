-- The invariant is `Gathering`. The reference has nothing of the records whose displacements do not reach.
use Rattle.references.specs.References.{reference_of}
use Rattle.references.proofs.Gathering.{Gathering}
use Rattle.references.proofs.gather_list.Given as goal

abbrev pub invariant-loop-i : goal.invariant-loop-i
invariant-loop-i l = Gathering (reference_of l.f) l.initial.state l.row l.count l.n l.state l.m l.i
