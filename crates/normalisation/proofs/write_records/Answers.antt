use native.Mathlib.Omega.{arith}
use Rattle.normalisation.proofs.Turns.{listed_start, listed_more, listed_end}
use Rattle.normalisation.proofs.write_records.Goals.{At-loop-i}
use Rattle.normalisation.proofs.write_records.Goals as goal

pub loop-i-init : goal.loop-i-init
loop-i-init c = listed_start _ _ _

pub loop-i-preserved : goal.loop-i-preserved
loop-i-preserved c =
    rw (c.put_row.ensures, c.listed.ensures, c.row_at.ensures)
    (listed_more c.loop-i.invariant c.loop-i-test.true)

pub returns : goal.returns
returns c = listed_end c.loop-i.invariant (omega arith)
