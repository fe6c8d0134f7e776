-- The line of each row has room behind those of the rows before it.
use Prim.Native.Nat.{◌+◌, ◌*◌, ◌≤◌}
use native.Mathlib.Omega.{arith}
use lib.ListN.{length}
use Rattle.report.proofs.Tail.{tail_length, put_none, put_tail}
use Rattle.graphlines.specs.Rows.{row_line}
use Rattle.graphlines.proofs.Rows.{rows_none, rows_more, rows-more_length, rows-within, row_within, row_length, row-lent}
use Rattle.graphlines.proofs.put_rows.Goals.{In-loop-i}
use Rattle.graphlines.proofs.put_rows.Goals as goal

module _ (c : In-loop-i) where
  -- the row lies in the table
  inside : let a = c.args in a.width * c.loop-i.i + a.front ≤ length a.table.now
  inside =
      omega (arith, row_within c.args.width c.args.front c.requires.1 c.loop-i.i c.args.n c.loop-i-test.true, c.requires.2)

  -- its line has room
  room : let a = c.args in c.loop-i.at + length (row_line a.width a.front a.table.now c.loop-i.i) ≤ length c.loop-i.out
  room =
      let a = c.args in
      omega (
        arith,
        c.loop-i.auto.out,
        c.loop-i.invariant.count,
        rows-more_length a.width a.front a.table.now c.loop-i.i,
        rows-within a.width a.front a.table.now (c.loop-i.i + 1) a.n (omega (arith, c.loop-i-test.true)),
        c.requires.3,
      )

pub loop-i-init : goal.loop-i-init
loop-i-init c = rw (rows_none c.args.width c.args.front c.args.table.now) (put_none c.args.out.now)

pub put_row-at-requires : goal.put_row-at-requires
put_row-at-requires c =
    let a = c.args in
    let l = (goal.at.put_row-at-requires c).In-loop-i in
    (omega (arith, row_length a.width a.front a.table.now c.loop-i.i (inside l), c.requires.0), rw (row-lent a.width a.front a.table.now c.loop-i.i, tail_length c.loop-i.out c.loop-i.at) (omega (arith, room l)))

pub loop-i-preserved : goal.loop-i-preserved
loop-i-preserved c =
    let a = c.args in
    rw (rows_more a.width a.front a.table.now c.loop-i.i)
    (put_tail c.loop-i.invariant (rw (row-lent a.width a.front a.table.now c.loop-i.i) at c.put_row-at.ensures))
