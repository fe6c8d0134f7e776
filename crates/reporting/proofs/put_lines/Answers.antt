-- The line of each number has room behind those of the numbers before it.
use mathlib.Core.Path.{◌≡◌, ap}
use mathlib.Core.List.{◌++◌}
use Prim.Native.Nat.{◌+◌, ◌<◌, ◌≤◌}
use native.Mathlib.Omega.{arith}
use lib.ListN.{length, take, get_or, length-append}
use lib.Seq.{length-take-le}
use Rattle.std.proofs.lemmas.List.{get_or-take}
use Rattle.report.proofs.Tail.{tail_length, put_none, put_tail}
use Rattle.reporting.specs.Lines.{line_of_number, lines_of}
use Rattle.reporting.proofs.Lines.{lines_none, lines_more, lines-within}
use Rattle.reporting.proofs.put_lines.Goals.{In-loop-number}
use Rattle.reporting.proofs.put_lines.Goals as goal

module _ (c : In-loop-number) where
  inside : c.loop-number.number-index < c.args.n
  inside = omega (arith, length-take-le c.args.n c.args.lines.now c.requires.0)

  -- the number of a turn, and that its line goes behind those written
  number : get_or (take c.args.n c.args.lines.now) c.loop-number.number-index 0 ≡ get_or c.args.lines.now c.loop-number.number-index 0
  number = get_or-take c.args.n c.args.lines.now c.loop-number.number-index 0 inside

  more : lines_of (take (c.loop-number.number-index + 1) c.args.lines.now) ≡ lines_of (take c.loop-number.number-index c.args.lines.now) ++ line_of_number (get_or (take c.args.n c.args.lines.now) c.loop-number.number-index 0)
  more = rw number (lines_more c.args.lines.now c.loop-number.number-index (omega (arith, inside, c.requires.0)))

  -- it has room
  room : c.loop-number.at + length (line_of_number (get_or (take c.args.n c.args.lines.now) c.loop-number.number-index 0)) ≤ length c.args.out.now
  room =
      omega (
        arith,
        c.loop-number.invariant.count,
        ap length more,
        length-append (lines_of (take c.loop-number.number-index c.args.lines.now)) (line_of_number (get_or (take c.args.n c.args.lines.now) c.loop-number.number-index 0)),
        lines-within c.args.lines.now (c.loop-number.number-index + 1) c.args.n (omega (arith, inside)),
        c.requires.1,
      )

pub loop-number-init : goal.loop-number-init
loop-number-init c = rw lines_none (put_none c.args.out.now)

pub put_line-at-requires : goal.put_line-at-requires
put_line-at-requires c =
    rw (tail_length c.loop-number.out c.loop-number.at) (omega (arith, room (goal.at.put_line-at-requires c).In-loop-number))

pub loop-number-preserved : goal.loop-number-preserved
loop-number-preserved c =
    rw (more (goal.at.loop-number-preserved c).In-loop-number) (put_tail c.loop-number.invariant c.put_line-at.ensures)
