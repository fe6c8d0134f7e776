-- A field is the name, or none is.
use mathlib.Core.Path.{◌≡◌, sym, ◌∙◌}
use native.Mathlib.Omega.{arith}
use borrow.Author.Rules.{rules}
use lib.ListN.{length}
use Rattle.columns.specs.Given.{max_names}
use Rattle.columns.proofs.ColumnLists.{name_found, name_absent}
use Rattle.columns.proofs.with_name.Goals as goal

pub returns-in-Some : goal.returns-in-Some
returns-in-Some c =
    let wide : length c.args.cs.at ≡ max_names = search rules in
    let column = c.in-Some.ensures in
    name_found c.requires wide c.args.name.now column.0 (omega (arith, column.1, c.requires.fields))

pub returns-in-None : goal.returns-in-None
returns-in-None c =
    let wide : length c.args.cs.at ≡ max_names = search rules in
    name_absent c.requires wide c.args.name.now (c.requires.fields ∙ sym c.in-None.ensures) (omega arith)
