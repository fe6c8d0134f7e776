use Prim.Native.Nat.{◌+◌, ◌<◌}
use native.Mathlib.Omega.{arith}
use borrow.Author.Rules.{rules}
use lib.IntN.{ℤ, pos}
use lib.ListN.{length, get_or}
use mir.Syntax.{w64}
use mir.Val.{SFits}
use mir.Facts.{to_z-of_z}
use Rattle.model.specs.Bytes.{line_feed}
use Rattle.report.specs.Put.{field_at}
use Rattle.report.proofs.Lines.{fields-none, fields-more, fields-more_length, fields-all, fields_within}
use Rattle.report.proofs.Tail.{tail_length, put_none, put_byte, put_tail}
use Rattle.report.proofs.put_numbers.Goals.{After-loop-i, In-loop-i}
use Rattle.report.proofs.put_numbers.Goals as goal

module _ (c : In-loop-i) where
  abbrev value : ℤ
  value = get_or c.args.vs.now c.loop-i.i (pos 0)

  room : c.loop-i.at + length (field_at c.loop-i.i value) < length c.args.out.now
  room =
      let vs = c.args.vs.now in
      omega (arith, c.loop-i.invariant.count, fields-more_length vs c.loop-i.i (omega arith), fields_within vs (c.loop-i.i + 1) (omega arith), c.requires)

room-left : (c : After-loop-i) → c.loop-i.at < length c.args.out.now
room-left c = omega (arith, c.loop-i.invariant.count, fields_within c.args.vs.now c.loop-i.i (omega arith), c.requires)

pub loop-i-init : goal.loop-i-init
loop-i-init c = rw (fields-none c.args.vs.now) (put_none c.args.out.now)

pub put_field-at-requires : goal.put_field-at-requires
put_field-at-requires c =
    let here = (goal.at.put_field-at-requires c).In-loop-i in
    let f : SFits w64 (value here) = search rules in
    rw (to_z-of_z f, tail_length c.loop-i.out c.loop-i.at) (omega (arith, room here))

pub loop-i-preserved : goal.loop-i-preserved
loop-i-preserved c =
    let f : SFits w64 (value (goal.at.loop-i-preserved c).In-loop-i) = search rules in
    rw (fields-more c.args.vs.now c.loop-i.i c.loop-i-test.true) (put_tail c.loop-i.invariant (rw (to_z-of_z f) at c.put_field-at.ensures))

pub bounds-out-at : goal.bounds-out-at
bounds-out-at c = omega (arith, room-left c)

pub returns : goal.returns
returns c =
    rw (fields-all c.args.vs.now c.loop-i.i (omega arith)) (put_byte line_feed c.loop-i.invariant (room-left (goal.at.returns c).After-loop-i))
