-- The last root bit of the reference and the bit before its first are taken from the last bit and from the first.
use mathlib.Core.Path.{ap, ◌∙◌}
use borrow.Author.Rules.{rules}
use lib.IntN.{ℤ, ◌-ℤ◌}
use Rattle.references.proofs.Numbers.{last_movable, root_previous, previous_movable}
use Rattle.references.proofs.reaching.Goals as goal

pub last_root-end-requires : goal.last_root-end-requires
last_root-end-requires c = c.requires.0

pub less-requires : goal.less-requires
less-requires c = last_movable c.requires.0 (search rules) c.last_root-end.ensures

pub previous-requires : goal.previous-requires
previous-requires c = root_previous c.requires.0

pub less-requires-2 : goal.less-requires-2
less-requires-2 c = previous_movable c.requires.0 c.requires.2 c.previous.ensures

pub returns : goal.returns
returns c =
    let a = c.args in (
      c.less.ensures ∙ ap (λ (z : ℤ). a.first.0 -ℤ z) c.last_root-end.ensures,
      c.less-2.ensures ∙ ap (λ (z : ℤ). a.last.0 -ℤ z) c.previous.ensures,
    )
