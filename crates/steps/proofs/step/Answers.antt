-- The shifted run can be clipped, because the run, the bit offset and the bits of the node entered are small. In what is returned no call before the clip is
-- named: a bound that is moved is refused at its equation first.
use mathlib.Core.Path.{sym, subst}
use borrow.Author.Rules.{rules}
use Rattle.runs.specs.Clipping.{Clippable, SmallOffset}
use Rattle.runs.proofs.Runs.{shift-read, shift_clippable}
use Rattle.steps.proofs.Steps.{step_returns}
use Rattle.extents.proofs.Rows.{to-small, edge_small}
use Rattle.steps.proofs.step.Goals.{After-offset_of-offset}
use Rattle.steps.proofs.step.Goals as goal

pub returns : goal.returns
returns c =
    let r = step_returns _ _ _ _ c.clip.result _ _ _ c.clip.ensures.result_value (search rules) (search rules) (search (rules, shift-read)) in
    record { result_value = r.0; stepped = r.1 }

pub offset_of-offset-requires : goal.offset_of-offset-requires
offset_of-offset-requires c = (c.requires.0, c.requires.1)

small : (c : After-offset_of-offset) → SmallOffset c.offset_of-offset.result.0
small c = edge_small c.requires.0 c.args.e c.requires.1 c.offset_of-offset.ensures

pub shift-shifted-requires : goal.shift-shifted-requires
shift-shifted-requires c = (c.requires.2, small c)

pub entered_extent-requires : goal.entered_extent-requires
entered_extent-requires c = (c.requires.0, c.requires.1)

pub clip-requires : goal.clip-requires
clip-requires c = (
  subst Clippable (sym c.shift-shifted.ensures.result_value) (shift_clippable c.requires.2 (small (goal.at.clip-requires c).After-offset_of-offset)),
  to-small c.requires.0 c.args.e c.requires.1 c.entered_extent.ensures,
)
