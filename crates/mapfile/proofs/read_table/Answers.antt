-- A wrong names line is told; else the value lines are read.
use Rattle.std.specs.Prelude as std
use mathlib.Core.Path.{ap}
use native.Mathlib.Omega.{arith}
use lib.ListN.{length, length-append, length-map}
use Rattle.model.specs.Reader.{check_side_or_role}
use Rattle.columns.specs.Given.{NamesLineGiven}
use Rattle.columns.proofs.ColumnLists.{names_line_given}
use Rattle.mapfile.specs.Given.{table_of, is_last}
use Rattle.mapfile.proofs.ReadTables.{file_regular, file_several, file_few, file_room, line_wrong, line-good, line_in_text, line-values, line-room}
use Rattle.mapfile.proofs.read_table.Goals.{In-Some}
use Rattle.mapfile.proofs.read_table.Goals as goal

-- the names line is one of the table
laid : (s : In-Some) → NamesLineGiven (table_of s.args.table) s.args.text.now s.args.from (std.Some (s.in-Some.cs, s.in-Some.next))
laid s = names_line_given (table_of s.args.table) s.args.text.now s.args.from s.names.ensures s.optional.ensures (std.Some (s.in-Some.cs, s.in-Some.next)) s.in-Some.ensures

pub read_names-requires-clause-few : goal.read_names-requires-clause-few
read_names-requires-clause-few c =
    let t = table_of c.args.table in
    omega (
      arith,
      file_few c.args.table,
      length-append t.names t.optional,
      ap length c.names.ensures,
      ap length c.optional.ensures,
      length-map c.names.result.now (λ n. n.now),
      length-map c.optional.result.now (λ n. n.now),
    )

pub returns-in_default : goal.returns-in_default
returns-in_default c =
    let f = c.args.table in
    line_wrong (file_regular f) (file_several f) c.requires.0 (is_last f) check_side_or_role
    (names_line_given (table_of f) c.args.text.now c.args.from c.names.ensures c.optional.ensures std.None c.in_default.ensures)

pub read_rows-requires : goal.read_rows-requires
read_rows-requires c =
    let f = c.args.table in
    let given = laid (goal.at.read_rows-requires c).In-Some in
    rw c.room.ensures (
      line_in_text (file_regular f) (file_several f) c.requires.0 given.0 given.1,
      line-good (file_regular f) (file_several f) c.requires.0 given.0 given.1 (file_few f),
      line-room (file_regular f) (file_several f) c.requires.0 given.0 given.1 (file_room f),
      c.requires.1,
      c.requires.2,
    )

pub returns : goal.returns
returns c =
    let f = c.args.table in
    let given = laid (goal.at.returns c).In-Some in
    let values = line-values (file_regular f) (file_several f) c.requires.0 given.0 given.1 in
    rw (values (is_last f) check_side_or_role, ← c.is_last.ensures, ← c.room.ensures) c.read_rows.ensures
