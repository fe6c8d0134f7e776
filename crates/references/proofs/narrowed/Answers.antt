-- The shifted run can be clipped, because both runs are small. In what is returned no call before the clip is named: an end or an offset that is another is
-- refused at its equation first.
use mathlib.Core.Path.{sym, subst}
use borrow.Author.Rules.{rules}
use Rattle.runs.specs.Clipping.{Clippable, SmallOffset}
use Rattle.runs.proofs.Runs.{shift-read, shift_clippable}
use Rattle.references.proofs.Bringing.{part_offset, narrowed_returns}
use Rattle.references.proofs.Numbers.{root_movable}
use Rattle.references.proofs.narrowed.Goals.{After-less}
use Rattle.references.proofs.narrowed.Goals as goal

pub returns : goal.returns
returns c =
    let n = narrowed_returns _ _ c.clip.result _ _ _ c.clip.ensures.result_value (search rules) (search rules) (search (rules, shift-read)) in
    record { result_value = n.0; narrowed_by = n.1 }

pub less-requires : goal.less-requires
less-requires c = root_movable c.requires.0

small : (c : After-less) → SmallOffset c.less.result.0
small c = subst SmallOffset (sym c.less.ensures) (part_offset c.requires.0)

pub shift-shifted-requires : goal.shift-shifted-requires
shift-shifted-requires c = (c.requires.1, small c)

pub clip-requires : goal.clip-requires
clip-requires c = (
  subst Clippable (sym c.shift-shifted.ensures.result_value) (shift_clippable c.requires.1 (small (goal.at.clip-requires c).After-less)),
  record { low = c.requires.0.low; high = c.requires.0.high },
)
