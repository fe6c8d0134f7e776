-- The values of the line, and its side or role.
use Rattle.std.specs.Prelude.{Some}
use mathlib.Core.Path.{◌≡◌, ap}
use mathlib.Core.Logic.{◌≢◌}
use native.Mathlib.Omega.{arith}
use borrow.Author.Rules.{rules}
use lib.ListN.{drop}
use mir.Syntax.{w64}
use mir.Val.{SFits, of_z}
use Rattle.integers.proofs.Range.{fits64, bits-same}
use Rattle.sides.specs.declared.Side.{Side}
use Rattle.sides.specs.declared.Side.TheVariants.{First, Second}
use Rattle.sides.specs.Given.{Clear, side_number, RowGiven}
use Rattle.sides.proofs.RowLines.{row_key, clear_kept, line-broken, row_sided, row_keyless}
use Rattle.sides.proofs.read_row.Goals.{After-read_line, In_ok-next}
use Rattle.sides.proofs.read_row.Goals as goal

-- the row after the line is read: behind the values it has 0 as before
clear : (k : After-read_line) → Clear k.args.cs k.read_line.new.row
clear k = clear_kept k.args.cs k.args.row.now k.read_line.new.row k.requires.3 k.read_line.ensures.rest

pub returns-in_err-next-clause-row : goal.returns-in_err-next-clause-row
returns-in_err-next-clause-row c =
    rw c.from_residual.ensures (line-broken c.requires.1 (drop c.args.from.at c.args.text.now) c.in_err-next.ensures.line)

-- a row whose side or role is written as 0 or 1
given : (v : In_ok-next) (side : Side) → row_key v.args.cs v.read_line.new.row ≡ side_number side
    → RowGiven v.args.text.now v.args.from v.args.cs v.read_line.new.row (Some (side, v.in_ok-next.next))
given v side e =
    let k = (goal.at.In_ok-next v).After-read_line in
    (row_sided v.requires.1 (drop v.args.from.at v.args.text.now) v.read_line.new.row (omega arith) (clear k) v.in_ok-next.ensures.line.0 side e, v.in_ok-next.ensures.line.1)

pub returns-in-0-clause-row : goal.returns-in-0-clause-row
returns-in-0-clause-row c =
    let fits : SFits w64 (row_key c.args.cs c.read_line.new.row) = search rules in
    let key : of_z w64 (row_key c.args.cs c.read_line.new.row) ≡ 0 = search rules in
    given (goal.at.returns-in-0-clause-row c).In_ok-next First (bits-same fits (fits64 (omega arith, omega arith)) key)

pub returns-in-1-clause-row : goal.returns-in-1-clause-row
returns-in-1-clause-row c =
    let fits : SFits w64 (row_key c.args.cs c.read_line.new.row) = search rules in
    let key : of_z w64 (row_key c.args.cs c.read_line.new.row) ≡ 1 = search rules in
    given (goal.at.returns-in-1-clause-row c).In_ok-next Second (bits-same fits (fits64 (omega arith, omega arith)) key)

pub returns-in_default-clause-row : goal.returns-in_default-clause-row
returns-in_default-clause-row c =
    let key : (of_z w64 (row_key c.args.cs c.read_line.new.row) ≢ 0) × (of_z w64 (row_key c.args.cs c.read_line.new.row) ≢ 1) = search rules in
    row_keyless c.requires.1 (drop c.args.from.at c.args.text.now) c.read_line.new.row (omega arith) (clear (goal.at.returns-in_default-clause-row c).After-read_line)
    c.in_ok-next.ensures.line.0 (λ e. key.0 (ap (of_z w64) e)) (λ e. key.1 (ap (of_z w64) e))
