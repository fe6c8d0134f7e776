use mathlib.Core.Path.{◌≡◌, sym, ◌∙◌}
use mathlib.Core.Bool.{false, not, ◌&&◌}
use Prim.Native.Nat.{◌<◌}
use native.Mathlib.Omega.{arith}
use lib.IntN.{pos}
use lib.ListN.{drop, get_or-replicate}
use Rattle.lists.specs.Lists.{is_nil}
use Rattle.cursor.specs.Parts.{first_line}
use Rattle.sides.specs.Given.{row_room}
use Rattle.sides.proofs.RowLines.{numbers_length}
use Rattle.sides.proofs.TableRows.{rows_start, rows_short, rows_all, rows-ended, rows-bad, rows_onward, rows-first, rows-second}
use Rattle.sides.proofs.read_rows.Goals.{Else-is_table_end, In-Some}
use Rattle.sides.proofs.read_rows.Goals as goal

-- the table goes on
goes : (e : Else-is_table_end) → let s = e.args in
    (is_nil (first_line (drop e.loop-c.c.at s.text.now)) && not s.last) ≡ false
goes e = sym e.is_table_end.ensures ∙ e.if-is_table_end.false

pub loop-c-init : goal.loop-c-init
loop-c-init c =
    (get_or-replicate row_room c.args.cs.fields (pos 0) (pos 0) (omega (arith, c.requires.1.few_fields)), rows_start c.args.cs c.args.last c.requires.2.0 c.args.first.now c.args.second.now c.requires.0 c.requires.2.1)

pub returns-then-is_table_end : goal.returns-then-is_table_end
returns-then-is_table_end c =
    rows-ended c.loop-c.invariant.1 c.loop-c-test.true (sym c.is_table_end.ensures ∙ c.if-is_table_end.true)

pub returns-in_default : goal.returns-in_default
returns-in_default c =
    rows-bad c.loop-c.invariant.1 c.loop-c-test.true (goes (goal.at.returns-in_default c).Else-is_table_end) c.in_default.ensures.row

-- the next line starts behind this one
onward : (v : In-Some) → v.loop-c.c.at < v.in-Some.next.at
onward v = rows_onward v.loop-c.invariant.1 v.loop-c-test.true (goes (goal.at.In-Some v).Else-is_table_end) v.in-Some.ensures.row.1

pub loop-c-smaller-in-First : goal.loop-c-smaller-in-First
loop-c-smaller-in-First c = omega (arith, onward (goal.at.loop-c-smaller-in-First c).In-Some)

pub loop-c-preserved-in-First : goal.loop-c-preserved-in-First
loop-c-preserved-in-First c =
    let given = c.in-Some.ensures.row in (
      c.in-Some.ensures.clear,
      rows-first c.loop-c.invariant.1 c.loop-c-test.true (goes (goal.at.loop-c-preserved-in-First c).Else-is_table_end) given.1 (rw c.in-First.is at given.0)
          (numbers_length c.requires.1 c.read_row.new.row) c.requires.1.several c.requires.3 c.store.ensures,
    )

pub loop-c-smaller : goal.loop-c-smaller
loop-c-smaller c = omega (arith, onward (goal.at.loop-c-smaller c).In-Some)

pub loop-c-preserved : goal.loop-c-preserved
loop-c-preserved c =
    let given = c.in-Some.ensures.row in (
      c.in-Some.ensures.clear,
      rows-second c.loop-c.invariant.1 c.loop-c-test.true (goes (goal.at.loop-c-preserved c).Else-is_table_end) given.1 (rw c.in-Second.is at given.0)
          (numbers_length c.requires.1 c.read_row.new.row) c.requires.1.several c.requires.4 c.store-in-Second.ensures,
    )

pub returns-then-last : goal.returns-then-last
returns-then-last c = rows_all c.loop-c.invariant.1 c.loop-c-test.false c.if-last.true

pub returns-else-last : goal.returns-else-last
returns-else-last c = rows_short c.loop-c.invariant.1 c.loop-c-test.false c.if-last.false
