-- The ends are moved by the offset. What is returned stands first: a wrong end is refused there.
use Rattle.runs.specs.Clipping.{run_of}
use Rattle.runs.proofs.Runs.{shift-ends, shift-exact}
use Rattle.runs.proofs.shift.Goals as goal

pub returns : goal.returns
returns c =
    let run = run_of c.args.run in
    let o = c.args.offset.0 in
    let moved = shift-ends o run c.less.ensures c.less-2.ensures in
    record { result_value = moved; shifted = shift-exact o run moved }
