use native.Mathlib.Omega.{arith}
use Rattle.arrivals.proofs.Marks.{blank-next}
use Rattle.arrivals.proofs.clear_marks.Goals as goal

pub loop-v-preserved : goal.loop-v-preserved
loop-v-preserved c = blank-next c.loop-v.state c.loop-v.v (omega arith) c.loop-v.invariant
