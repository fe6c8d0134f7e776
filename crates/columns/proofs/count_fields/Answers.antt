use mathlib.Core.Path.{sym, ◌∙◌}
use Prim.Native.Nat.{◌<◌}
use native.Mathlib.Omega.{arith}
use lib.ListN.{length}
use Rattle.columns.proofs.Names.{fields_one, fields_within, fields-blank, fields-more, fields-all, fields-next}
use Rattle.columns.proofs.count_fields.Goals.{In-loop-fields}
use Rattle.columns.proofs.count_fields.Goals as goal

-- the next field starts in the text
more : (c : In-loop-fields) → c.loop-fields.end < length c.args.text.now
more c = fields-blank c.loop-fields.invariant (sym c.is_blank.ensures ∙ c.loop-fields-test.true)

pub field_end-end-requires : goal.field_end-end-requires
field_end-end-requires c = c.requires.within

pub loop-fields-init : goal.loop-fields-init
loop-fields-init c = fields_one c.args.text.now c.args.from.at c.field_end-end.result c.requires.within c.field_end-end.ensures

pub overflow_add-fields : goal.overflow_add-fields
overflow_add-fields c = omega (arith, c.loop-fields.invariant.few, c.loop-fields.invariant.within, more c)

pub overflow_add-end : goal.overflow_add-end
overflow_add-end c = omega (arith, more c)

pub field_end-end-requires-in-loop-fields : goal.field_end-end-requires-in-loop-fields
field_end-end-requires-in-loop-fields c = omega (arith, more c)

pub loop-fields-smaller : goal.loop-fields-smaller
loop-fields-smaller c = omega (arith, more (goal.at.loop-fields-smaller c).In-loop-fields, c.field_end-end-in-loop-fields.ensures)

pub loop-fields-preserved : goal.loop-fields-preserved
loop-fields-preserved c =
    fields-more c.loop-fields.invariant (sym c.is_blank.ensures ∙ c.loop-fields-test.true) c.field_end-end-in-loop-fields.result c.field_end-end-in-loop-fields.ensures

pub past-requires : goal.past-requires
past-requires c = fields_within c.loop-fields.invariant

pub overflow_add-result : goal.overflow_add-result
overflow_add-result c = omega (arith, c.requires.low, c.requires.within, c.well_formed)

pub returns : goal.returns
returns c =
    let last = sym c.is_blank.ensures ∙ c.loop-fields-test.false in
    record {
      fields = fields-all c.loop-fields.invariant last;
      next = fields-next c.loop-fields.invariant last c.args.from.line c.past.result c.past.ensures;
    }
