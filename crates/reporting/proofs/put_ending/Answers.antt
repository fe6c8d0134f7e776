-- The names go to the front of the buffer and the result's line into what remains of it.
use Prim.Native.Nat.{◌+◌, ◌-◌, ◌≤◌}
use native.Mathlib.Omega.{arith}
use lib.ListN.{length, take, drop}
use Rattle.model.specs.Answers.{comparison_result}
use Rattle.model.specs.Report.{result_line}
use Rattle.report.specs.Put.{Put}
use Rattle.report.proofs.Tail.{tail_length, put_tail}
use Rattle.reporting.proofs.Parts.{middle_length, result_parts, result_length}
use Rattle.reporting.proofs.put_ending.Goals.{After-put_middle-at, After-put_numbers}
use Rattle.reporting.proofs.put_ending.Goals as goal

pub put_middle-at-requires : goal.put_middle-at-requires
put_middle-at-requires c = omega (arith, result_length (comparison_result c.args.res), middle_length, c.requires.1)

-- the result's line has room behind the names
room : (p : After-put_middle-at) → let r = comparison_result p.args.res in
    p.put_middle-at.result + length (result_line r) ≤ length p.put_middle-at.new.out
room p =
    omega (arith, result_length (comparison_result p.args.res), middle_length, p.requires.1, p.put_middle-at.ensures.count, p.put_middle-at.auto.out)

pub slice_bounds-put_numbers-count : goal.slice_bounds-put_numbers-count
slice_bounds-put_numbers-count c = omega (arith, room (goal.at.slice_bounds-put_numbers-count c).After-put_middle-at)

pub slice_bounds-put_numbers-start : goal.slice_bounds-put_numbers-start
slice_bounds-put_numbers-start c = omega (arith, room (goal.at.slice_bounds-put_numbers-start c).After-put_middle-at)

pub put_numbers-requires : goal.put_numbers-requires
unfolding result_line
put_numbers-requires c =
    rw (c.result_numbers-numbers.ensures, tail_length c.put_middle-at.new.out c.put_middle-at.result) (omega (arith, room (goal.at.put_numbers-requires c).After-put_middle-at))

-- the numbers that are written are those of the result's line
written : (q : After-put_numbers) → Put (result_line (comparison_result q.args.res))
    (take (length q.put_middle-at.new.out - q.put_middle-at.result) (drop q.put_middle-at.result q.put_middle-at.new.out)) q.put_numbers.new.out
    q.put_numbers.result
unfolding result_line
written q = rw q.result_numbers-numbers.ensures at q.put_numbers.ensures

pub overflow_add-result : goal.overflow_add-result
overflow_add-result c = omega (arith, room (goal.at.overflow_add-result c).After-put_middle-at, (written (goal.at.overflow_add-result c).After-put_numbers).count)

pub returns : goal.returns
returns c =
    rw (result_parts (comparison_result c.args.res)) (put_tail c.put_middle-at.ensures (written (goal.at.returns c).After-put_numbers))
