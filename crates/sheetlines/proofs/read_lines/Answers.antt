-- A wrong names line is told; else the value lines are read.
use Rattle.std.specs.Prelude as std
use mathlib.Core.Path.{◌≡◌, refl, ◌∙◌}
use mathlib.Core.Bool.{true}
use Prim.Native.Nat.{◌≤◌}
use native.Mathlib.Omega.{arith}
use lib.ListN.{length, drop}
use Rattle.model.specs.MapFile.{lines, all_names}
use Rattle.model.specs.Reader.{read_table}
use Rattle.model.specs.SheetFile.{sheet_table, check_sheet_row}
use Rattle.model.specs.Bytes.{bytes}
use Rattle.filerules.proofs.Words.{sheet_regular}
use Rattle.cursor.specs.Given.{InText}
use Rattle.columns.specs.Given.{NamesLineGiven}
use Rattle.columns.proofs.ColumnLists.{names_line_given}
use Rattle.mapfile.proofs.ReadTables.{line_wrong, line-good, line_in_text, line-values}
use Rattle.sheetlines.proofs.read_lines.Goals.{After-start-from, In-Some}
use Rattle.sheetlines.proofs.read_lines.Goals as goal

-- a sheet has four names
several : 2 ≤ length sheet_table.names
unfolding sheet_table
several = omega arith

four : length (all_names sheet_table) ≡ 4
unfolding sheet_table
four = omega arith

-- the cursor stands at the start
starts : (k : After-start-from) → InText k.args.text.now k.start-from.result
starts k = record { within = omega (arith, k.start-from.ensures.0); low = omega (arith, k.start-from.ensures.0, k.start-from.ensures.1) }

-- what is read from there is the table of the text
whole : (k : After-start-from) → let t = k.args.text.now in let c = k.start-from.result in
    read_table true check_sheet_row sheet_table 1 (lines t) ≡ read_table true check_sheet_row sheet_table c.line (lines (drop c.at t))
whole k = rw (k.start-from.ensures.0, k.start-from.ensures.1) refl

pub returns-in_default : goal.returns-in_default
unfolding bytes sheet_table
returns-in_default c =
    let k = (goal.at.returns-in_default c).After-start-from in
    whole k
    ∙ line_wrong sheet_regular several (starts k) true check_sheet_row
    (names_line_given sheet_table c.args.text.now c.start-from.result refl refl std.None c.in_default.ensures)

-- the names line is one of a sheet
laid : (s : In-Some) → NamesLineGiven sheet_table s.args.text.now s.start-from.result (std.Some (s.in-Some.cs, s.in-Some.next))
unfolding bytes sheet_table
laid s = names_line_given sheet_table s.args.text.now s.start-from.result refl refl (std.Some (s.in-Some.cs, s.in-Some.next)) s.in-Some.ensures

pub read_values-requires : goal.read_values-requires
read_values-requires c =
    let start = starts (goal.at.read_values-requires c).After-start-from in
    let given = laid (goal.at.read_values-requires c).In-Some in (
      line_in_text sheet_regular several start given.0 given.1,
      line-good sheet_regular several start given.0 given.1 (omega (arith, four)),
      given.0.count ∙ four,
      c.requires.0,
      c.requires.1,
    )

pub returns : goal.returns
returns c =
    let k = (goal.at.returns c).After-start-from in
    let given = laid (goal.at.returns c).In-Some in
    rw (whole k, line-values sheet_regular several (starts k) given.0 given.1 true check_sheet_row) c.read_values.ensures
