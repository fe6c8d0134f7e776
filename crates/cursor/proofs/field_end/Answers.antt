use mathlib.Core.Path.{sym, ◌∙◌}
use native.Mathlib.Omega.{arith}
use Rattle.cursor.proofs.Parts.{field_none, field_ends, field_goes}
use Rattle.cursor.proofs.field_end.Goals as goal

pub returns-then-ends_field : goal.returns-then-ends_field
returns-then-ends_field c =
    omega (arith, field_ends c.args.text.now c.loop-end.end (omega arith) (sym c.ends_field.ensures ∙ c.if-ends_field.true))

pub loop-end-preserved : goal.loop-end-preserved
loop-end-preserved c =
    omega (arith, field_goes c.args.text.now c.loop-end.end (omega arith) (sym c.ends_field.ensures ∙ c.if-ends_field.false))

pub returns : goal.returns
returns c = omega (arith, field_none c.args.text.now c.loop-end.end (omega arith))
