use borrow.Author.Rules.{rules}
use mir.Syntax.{w64}
use mir.Val.{SFits}
use mir.Facts.{to_z-of_z}
use Rattle.cursor.proofs.ValueLines.{state_stops, state_goes}
use Rattle.cursor.proofs.read_line.Goals as goal

pub returns-in_err-v-clause-line : goal.returns-in_err-v-clause-line
returns-in_err-v-clause-line c = rw c.from_residual.ensures (state_stops c.loop-i.invariant c.loop-i-test.true c.in_err-v.ensures)

pub loop-i-preserved : goal.loop-i-preserved
loop-i-preserved c =
    let fits : SFits w64 c.in_ok-v.v = search rules in
    let given = c.in_ok-v.ensures in
    rw (to_z-of_z fits) (state_goes c.loop-i.invariant c.loop-i-test.true c.requires.2 given.0 given.1)
