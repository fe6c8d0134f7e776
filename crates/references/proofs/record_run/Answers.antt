-- The bit addresses of the ends are the root bits less the displacement, which a small record allows.
use mathlib.Core.Path.{◌≡◌, ◌∙◌}
use borrow.Author.Rules.{rules}
use lib.IntN.{ℤ, ◌-ℤ◌}
use mir.Syntax.{w64}
use mir.Val.{SFits}
use mir.Facts.{to_z-of_z}
use Rattle.model.specs.Bitmapping.{Record}
use Rattle.model.specs.Runs.{Run}
use Rattle.normalisation.specs.Merging.{of_displacement}
use Rattle.references.specs.References.{record_run}
use Rattle.references.proofs.Numbers.{first_movable, end_movable}
use Rattle.references.proofs.record_run.Goals.{After-of-displacement, After-of-first, After-of-last}
use Rattle.references.proofs.record_run.Goals as goal

-- the numbers of the record, as they were read
displacement : (c : After-of-displacement) → c.of-displacement.result.0 ≡ (of_displacement c.args.row).displacement
displacement c =
    let f : SFits w64 c.args.row.first = search rules in
    c.of-displacement.ensures ∙ to_z-of_z f

first : (c : After-of-first) → c.of-first.result.0 ≡ (of_displacement c.args.row).first
first c =
    let f : SFits w64 c.args.row.second = search rules in
    c.of-first.ensures ∙ to_z-of_z f

last : (c : After-of-last) → c.of-last.result.0 ≡ (of_displacement c.args.row).last
last c =
    let f : SFits w64 c.args.row.third = search rules in
    c.of-last.ensures ∙ to_z-of_z f

pub less-requires : goal.less-requires
less-requires c =
    rw (first (goal.at.less-requires c).After-of-first, displacement (goal.at.less-requires c).After-of-displacement) (first_movable c.requires)

pub less-requires-2 : goal.less-requires-2
less-requires-2 c =
    rw (last (goal.at.less-requires-2 c).After-of-last, displacement (goal.at.less-requires-2 c).After-of-displacement) (end_movable c.requires)

-- the run by its numbers
run-numbers : (s : Record) {first last apart low high : ℤ} → first ≡ s.first → last ≡ s.last → apart ≡ s.displacement → low ≡ first -ℤ apart → high ≡ last -ℤ apart
    → ◌≡◌ {A = Run} (record { root = first; low = low; high = high }) (record_run s)
run-numbers s p q e l h = cc
