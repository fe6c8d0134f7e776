-- The names go to the front of the buffer and the lines of the rows into what remains of it.
use Prim.Native.Nat.{◌+◌, ◌≤◌}
use native.Mathlib.Omega.{arith}
use lib.ListN.{length, length-append}
use Rattle.report.proofs.Tail.{tail_length, put_tail}
use Rattle.graphlines.specs.Rows.{row_lines}
use Rattle.graphlines.proofs.put_table.Goals.{After-put_text-at, Start}
use Rattle.graphlines.proofs.put_table.Goals as goal

-- names and lines have room together
fits : (s : Start) → length s.args.names.now + length (row_lines s.args.width s.args.front s.args.table.now s.args.n) ≤ length s.args.out.now
fits s = omega (arith, length-append s.args.names.now (row_lines s.args.width s.args.front s.args.table.now s.args.n), s.requires.3)

pub put_text-at-requires : goal.put_text-at-requires
put_text-at-requires c = omega (arith, fits (goal.at.put_text-at-requires c).Start)

-- the lines have room behind the names
room : (p : After-put_text-at) → p.put_text-at.result + length (row_lines p.args.width p.args.front p.args.table.now p.args.n) ≤ length p.put_text-at.new.out
room p = omega (arith, fits (goal.at.After-put_text-at p).Start, p.put_text-at.ensures.count, p.put_text-at.auto.out)

pub slice_bounds-put_rows-count : goal.slice_bounds-put_rows-count
slice_bounds-put_rows-count c = omega (arith, room (goal.at.slice_bounds-put_rows-count c).After-put_text-at)

pub slice_bounds-put_rows-start : goal.slice_bounds-put_rows-start
slice_bounds-put_rows-start c = omega (arith, room (goal.at.slice_bounds-put_rows-start c).After-put_text-at)

pub put_rows-requires : goal.put_rows-requires
put_rows-requires c =
    (c.requires.0, c.requires.1, c.requires.2, rw (tail_length c.put_text-at.new.out c.put_text-at.result) (omega (arith, room (goal.at.put_rows-requires c).After-put_text-at)))

pub overflow_add-result : goal.overflow_add-result
overflow_add-result c = omega (arith, room (goal.at.overflow_add-result c).After-put_text-at, c.put_rows.ensures.count)

pub returns : goal.returns
returns c = put_tail c.put_text-at.ensures c.put_rows.ensures
