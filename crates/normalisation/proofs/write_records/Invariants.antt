-- The invariant is `Listed`: i rows are written, and the rest is as it was.
use Rattle.normalisation.proofs.Turns.{Listed}
use Rattle.normalisation.proofs.write_records.Given as goal

abbrev pub invariant-loop-i : goal.invariant-loop-i
invariant-loop-i l = Listed l.t l.n l.initial.out l.out l.i
