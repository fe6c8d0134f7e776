-- The size of a small run and its root bit are numbers of 64 bits, and so is their sum.
use mathlib.Core.Path.{ap, ◌∙◌}
use lib.IntN.{ℤ, ◌+ℤ◌}
use Rattle.listing.proofs.Small.{size_movable, last_addable}
use Rattle.references.proofs.last_root.Goals as goal

pub less-requires : goal.less-requires
less-requires c = size_movable c.requires

pub plus-requires : goal.plus-requires
plus-requires c = last_addable c.requires c.less.ensures

pub returns : goal.returns
returns c = c.plus.ensures ∙ ap (λ (z : ℤ). c.args.run.root.0 +ℤ z) c.less.ensures
