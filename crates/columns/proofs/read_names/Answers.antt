-- The names that the line must have are looked for, and then those that it may have.
use mathlib.Core.Path.{◌∙◌}
use native.Mathlib.Omega.{arith}
use lib.ListN.{length-map}
use Rattle.columns.proofs.ColumnLists.{names_few, names_missing, names_uneven, names_laid}
use Rattle.columns.proofs.read_names.Goals as goal

pub returns-then-cs-names : goal.returns-then-cs-names
returns-then-cs-names c =
    names_missing c.args.text.now c.args.from.at _ _ c.none.ensures c.count_fields-heading.ensures.fields c.with_names-cs.ensures
    (omega (arith, length-map c.args.names.now (λ n. n.now)))

pub with_names-cs-requires-2 : goal.with_names-cs-requires-2
with_names-cs-requires-2 c =
    let g = c.with_names-cs.ensures in
    record {
      within = c.requires.cursor.within;
      fields = g.fields ∙ c.none.ensures.fields ∙ c.count_fields-heading.ensures.fields;
      few = names_few g (omega (arith, c.none.ensures.named));
      room = omega (arith, g.count, c.none.ensures.count, c.requires.few, length-map c.args.names.now (λ n. n.now));
    }

pub returns-then-cs : goal.returns-then-cs
returns-then-cs c =
    names_uneven c.args.text.now c.args.from.at _ _ c.none.ensures c.count_fields-heading.ensures.fields c.with_names-cs.ensures c.with_names-cs-2.ensures (omega arith)

pub returns : goal.returns
returns c = (
  names_laid c.args.text.now c.args.from.at _ _ c.none.ensures c.count_fields-heading.ensures.fields c.with_names-cs.ensures c.with_names-cs-2.ensures
      (omega (arith, length-map c.args.names.now (λ n. n.now))) (omega arith),
  c.count_fields-heading.ensures.next,
)
