-- The displacement is less by `at`.
use mathlib.Core.Path.{◌≡◌, ap, ◌∙◌}
use borrow.Author.Rules.{rules}
use lib.IntN.{ℤ, ◌-ℤ◌}
use mir.Facts.{to_z-of_z}
use Rattle.listing.proofs.raised_displacement.Goals as goal

-- the difference of the number as it is read
less-of : {d e r : ℤ} (at : ℤ) → d ≡ e -ℤ at → e ≡ r → d ≡ r -ℤ at
less-of at p q = p ∙ ap (λ (z : ℤ). z -ℤ at) q

pub returns : goal.returns
returns c = search (rules, less-of)

pub difference-requires : goal.difference-requires
difference-requires c = rw (c.of.ensures, to_z-of_z c.ranges.displacement) c.requires
