-- The invariant is `Pass`, with the list itself as what is read: row i is still as it was, since fewer rows than i are written.
use Rattle.normalisation.specs.Merging.{by_displacement}
use Rattle.normalisation.proofs.Turns.{Pass}
use Rattle.normalisation.proofs.join_touching.Given as goal

abbrev pub invariant-loop-i : goal.invariant-loop-i
invariant-loop-i l = Pass by_displacement l.initial.t l.n l.initial.t l.t l.current l.i l.done
