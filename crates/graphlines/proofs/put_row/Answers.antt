-- The side goes to the front of the buffer and the numbers of the row into what remains of it.
use Prim.Native.Nat.{◌+◌, ◌≤◌}
use native.Mathlib.Omega.{arith}
use lib.ListN.{length}
use Rattle.model.specs.Bytes.{bytes}
use Rattle.model.specs.Report.{line_of}
use Rattle.report.proofs.Tail.{tail_length, put_tail}
use Rattle.graphlines.proofs.Rows.{side_line, side_length}
use Rattle.graphlines.proofs.put_row.Goals.{After-put_text-at}
use Rattle.graphlines.proofs.put_row.Goals as goal

pub put_text-at-requires : goal.put_text-at-requires
put_text-at-requires c = omega (arith, side_length c.args.row.now c.requires.0, c.requires.1)

-- the numbers have room behind the side
room : (p : After-put_text-at) → p.put_text-at.result + length (line_of p.args.row.now) ≤ length p.put_text-at.new.out
room p =
    omega (arith, side_length p.args.row.now p.requires.0, p.requires.1, p.put_text-at.ensures.count, p.put_text-at.auto.out)

pub slice_bounds-put_numbers-count : goal.slice_bounds-put_numbers-count
slice_bounds-put_numbers-count c = omega (arith, room (goal.at.slice_bounds-put_numbers-count c).After-put_text-at)

pub slice_bounds-put_numbers-start : goal.slice_bounds-put_numbers-start
slice_bounds-put_numbers-start c = omega (arith, room (goal.at.slice_bounds-put_numbers-start c).After-put_text-at)

pub put_numbers-requires : goal.put_numbers-requires
put_numbers-requires c =
    rw (tail_length c.put_text-at.new.out c.put_text-at.result) (omega (arith, room (goal.at.put_numbers-requires c).After-put_text-at))

pub overflow_add-result : goal.overflow_add-result
overflow_add-result c = omega (arith, room (goal.at.overflow_add-result c).After-put_text-at, c.put_numbers.ensures.count)

pub returns : goal.returns
unfolding bytes
returns c =
    rw (side_line c.args.row.now c.requires.0) (put_tail c.put_text-at.ensures c.put_numbers.ensures)
