use mathlib.Core.Path.{◌≡◌}
use Prim.Native.Nat.{◌+◌}
use native.Mathlib.Omega.{arith}
use borrow.Author.Rules.{rules}
use lib.IntN.{pos}
use lib.ListN.{length, get_or}
use lib.Seq.{paste-zero}
use mir.Syntax.{w64}
use mir.Val.{SFits}
use mir.Facts.{to_z-of_z}
use Rattle.sides.specs.Given.{row_numbers}
use Rattle.sides.proofs.RowLines.{numbers_length, number_at, append_none, append_all, append_next}
use Rattle.sides.proofs.store.Goals as goal

pub returns-then-room-n : goal.returns-then-room-n
returns-then-room-n c =
    append_none c.args.room c.args.n (row_numbers c.args.cs c.args.row.now) c.args.table.now
    (omega (arith, numbers_length c.requires.2 c.args.row.now))

pub loop-j-init : goal.loop-j-init
loop-j-init c = paste-zero c.args.table.now c.args.n (row_numbers c.args.cs c.args.row.now)

pub loop-j-preserved : goal.loop-j-preserved
loop-j-preserved c =
    let numbers = row_numbers c.args.cs c.args.row.now in
    let fits : SFits w64 (get_or c.args.row.now (get_or c.args.cs.at (c.loop-j.j + 1) 0) (pos 0)) = search rules in
    rw (to_z-of_z fits, c.loop-j.invariant)
    (append_next c.args.table.now numbers c.args.n c.loop-j.j (omega arith) (omega (arith, numbers_length c.requires.2 c.args.row.now))
    (number_at c.requires.2 c.args.row.now c.loop-j.j (omega arith)))

pub returns : goal.returns
returns c =
    let numbers = row_numbers c.args.cs c.args.row.now in
    let long = numbers_length c.requires.2 c.args.row.now in
    let all : c.loop-j.j ≡ length numbers = omega arith in
    rw (c.loop-j.invariant, all, ← long) (append_all c.args.room c.args.n numbers c.args.table.now (omega arith))
