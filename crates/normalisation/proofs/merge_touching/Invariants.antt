-- The invariant is `Pass`: the records written, and that the rest of the merge is that of the current record with the rows not yet read.
use Rattle.normalisation.specs.Merging.{by_first}
use Rattle.normalisation.proofs.Turns.{Pass}
use Rattle.normalisation.proofs.merge_touching.Given as goal

abbrev pub invariant-loop-i : goal.invariant-loop-i
invariant-loop-i l = Pass by_first l.t l.n l.initial.out l.out l.current l.i l.k
