-- A minus parts negative numbers from others.
use mathlib.Core.Path.{◌∙◌}
use Rattle.values.proofs.Numerals.{value-dash, value_plain}
use Rattle.values.proofs.signed_value.Goals as goal

pub returns-in-Some : goal.returns-in-Some
returns-in-Some c =
    let minus = c.in-Some.ensures.cases in
    c.negative_value.ensures ∙ rw minus.1 (value-dash c.args.field.now minus.0)

pub returns-in-None : goal.returns-in-None
returns-in-None c = c.positive_value.ensures ∙ value_plain c.args.field.now c.in-None.ensures.cases
