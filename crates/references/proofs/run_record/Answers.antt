-- The numbers of a small run's record are numbers of 64 bits.
use mathlib.Core.Path.{◌≡◌}
use borrow.Author.Rules.{rules}
use lib.IntN.{ℤ, ◌-ℤ◌}
use mir.Syntax.{w64}
use mir.Val.{SFits}
use mir.Facts.{to_z-of_z}
use Rattle.model.specs.Runs.{Run}
use Rattle.sorting.specs.declared.Row.{Row}
use Rattle.normalisation.specs.Merging.{by_displacement}
use Rattle.runs.specs.Clipping.{run_of}
use Rattle.references.specs.References.{last_root, run_record}
use Rattle.references.proofs.Numbers.{root_movable}
use Rattle.references.proofs.run_record.Goals as goal

pub less-requires : goal.less-requires
less-requires c = root_movable c.requires

-- the row by its numbers
row-numbers : (r : Run) {displacement last : ℤ} → displacement ≡ r.root -ℤ r.low → last ≡ last_root r
    → ◌≡◌ {A = Row} (record { first = displacement; second = r.root; third = last }) (by_displacement (run_record r))
row-numbers r p l = cc

pub returns : goal.returns
returns c =
    let f : SFits w64 c.less.result.0 = search rules in
    let g : SFits w64 c.args.run.root.0 = search rules in
    let h : SFits w64 c.last_root.result.0 = search rules in
    rw (to_z-of_z f, to_z-of_z g, to_z-of_z h) (row-numbers (run_of c.args.run) c.less.ensures c.last_root.ensures)
