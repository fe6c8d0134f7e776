-- The loop's invariant: the marks passed are blank.
use Rattle.arrivals.specs.Moves.{Blank}
use Rattle.arrivals.proofs.clear_marks.Given as goal

abbrev pub invariant-loop-v : goal.invariant-loop-v
invariant-loop-v l = Blank l.v l.state
