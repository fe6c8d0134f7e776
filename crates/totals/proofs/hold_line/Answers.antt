-- Where there is no room the lines stay as they are, as they do where a number is set past their end.
use mathlib.Core.Path.{sym}
use lib.Seq.{set_out}
use Rattle.totals.proofs.hold_line.Goals as goal

pub returns-else-count-lines : goal.returns-else-count-lines
returns-else-count-lines c = sym (set_out c.args.lines.now c.args.count c.args.number c.if-count-lines.false)
