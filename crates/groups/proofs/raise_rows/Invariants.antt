-- The invariant is `Raised`: the rows before row i are raised.
use Rattle.groups.proofs.Raising.{Raised}
use Rattle.groups.proofs.raise_rows.Given as goal

abbrev pub invariant-loop-i : goal.invariant-loop-i
invariant-loop-i l = Raised l.at.0 l.initial.state l.from l.to l.state l.i
