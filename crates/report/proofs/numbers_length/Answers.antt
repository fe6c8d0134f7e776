use mathlib.Core.Path.{◌≡◌, ap}
use native.Mathlib.Omega.{arith}
use borrow.Author.Rules.{rules}
use lib.IntN.{pos}
use lib.ListN.{length, get_or}
use mir.Syntax.{w64}
use mir.Val.{SFits}
use mir.Facts.{to_z-of_z}
use Rattle.report.specs.Put.{field_at}
use Rattle.report.proofs.Lines.{fields-none, fields-more_length, fields-all_length, field_short}
use Rattle.report.proofs.numbers_length.Goals.{After-field_length-n}
use Rattle.report.proofs.numbers_length.Goals as goal

counted : (c : After-field_length-n) → c.field_length-n.result ≡ length (field_at c.loop-i.i (get_or c.args.vs.now c.loop-i.i (pos 0)))
counted c =
    let f : SFits w64 (get_or c.args.vs.now c.loop-i.i (pos 0)) = search rules in
    rw (to_z-of_z f) at c.field_length-n.ensures

pub loop-i-init : goal.loop-i-init
loop-i-init c = (omega (arith, ap length (fields-none c.args.vs.now)), omega arith)

pub overflow_add-n : goal.overflow_add-n
overflow_add-n c =
    omega (arith, counted c, field_short c.loop-i.i (get_or c.args.vs.now c.loop-i.i (pos 0)))

pub loop-i-preserved : goal.loop-i-preserved
loop-i-preserved c =
    let vs = c.args.vs.now in
    let more = fields-more_length vs c.loop-i.i c.loop-i-test.true in
    (omega (arith, counted c, more), omega (arith, counted c, field_short c.loop-i.i (get_or vs c.loop-i.i (pos 0))))

pub returns : goal.returns
returns c = omega (arith, fields-all_length c.args.vs.now c.loop-i.i (omega arith))
