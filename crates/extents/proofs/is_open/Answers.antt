-- The access that was read is compared with the one that is closed to the kind.
use mathlib.Core.Path.{◌≡◌, ap, ◌∙◌}
use mathlib.Core.Bool.{not}
use borrow.Author.Rules.{rules}
use lib.Dec.{lit<}
use mir.Syntax.{w64}
use mir.Val.{SFits}
use Rattle.model.specs.declared.WalkKind.TheVariants.{Reading, Writing}
use Rattle.model.specs.Runs.{is_open}
use Rattle.tables.proofs.Cells.{bits_test}
use Rattle.extents.proofs.Rows.{row_open}
use Rattle.extents.proofs.is_open.Goals as goal

pub returns-in-Reading : goal.returns-in-Reading
unfolding is_open
returns-in-Reading c es =
    let row = c.node_at-row in
    let f : SFits w64 row.result.access = search rules in
    let e : c.args.kind ≡ Reading = search rules in
    rw e (ap not (bits_test f 2 (lit< tt)) ∙ row_open c.requires row.result row.ensures Reading es)

pub returns-in-Writing : goal.returns-in-Writing
unfolding is_open
returns-in-Writing c es =
    let row = c.node_at-row in
    let f : SFits w64 row.result.access = search rules in
    let e : c.args.kind ≡ Writing = search rules in
    rw e (ap not (bits_test f 1 (lit< tt)) ∙ row_open c.requires row.result row.ensures Writing es)
