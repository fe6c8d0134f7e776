-- The parts of a field, each by its function.
use mathlib.Core.Path.{ap, ◌∙◌}
use Rattle.model.specs.Reader.{value_of}
use Rattle.cursor.specs.Parts.{blank_first}
use Rattle.cursor.proofs.Fields.{end_within, end_behind, end_part}
use Rattle.cursor.proofs.read_field.Goals as goal

pub slice_bounds-signed_value-end : goal.slice_bounds-signed_value-end
slice_bounds-signed_value-end c =
    end_within c.args.text.now c.args.at c.field_end-end.result c.requires c.field_end-end.ensures

pub returns : goal.returns
returns c =
    let text = c.args.text.now in
    let at = c.args.at in
    let end = c.field_end-end.result in
    record {
      ends = c.field_end-end.ensures;
      more = c.is_blank.ensures ∙ ap blank_first (end_behind text at end c.requires c.field_end-end.ensures);
      value = c.signed_value.ensures ∙ ap value_of (end_part text at end c.requires c.field_end-end.ensures);
    }
