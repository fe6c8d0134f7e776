-- The refusals of a sheet are small.
use mathlib.Core.Path.{◌≡◌, refl, sym, subst}
use mathlib.Core.Bool.{Bool, true, false, cond}
use mathlib.Core.List.{List}
use mathlib.Core.Option.{Option, none, some}
use Prim.Native.Nat.{ℕ, suc, ◌+◌, ◌≤◌}
use native.Mathlib.Omega.{arith}
use lib.Dec.{ltb}
use lib.IntN.{ℤ}
use lib.ListN.{length}
use Rattle.lists.specs.Lists.{any}
use Rattle.model.specs.Limits.{max_text, max_edges}
use Rattle.model.specs.Bytes.{Bytes}
use Rattle.model.specs.MapFile.{lines}
use Rattle.model.specs.Refusals.{Refusal}
use Rattle.model.specs.Checks.{when, check_output}
use Rattle.model.specs.Calls.{Answer, refused, full, answer}
use Rattle.model.specs.Reader.{check_text, Reading, stopped, rows, read_table}
use Rattle.model.specs.Sheet.{SheetLine, sheet_nodes, sheet_edges}
use Rattle.model.specs.SheetFile.{sheet_table, good_line, clashes_with, check_sheet_line, check_sheet_row, lines_read, read_sheet}
use Rattle.model.specs.SheetCall.{TableLengths, check_made, made, made_of, sheet_answer, lengths_of, sheet_gives}
use Rattle.refusals.specs.Small.{last_of_sheet, last_of_text, SmallRefusal, SmallCheck, SmallAnswer}
use Rattle.refusals.proofs.Checks.{when-small, then-small, small_wide}
use Rattle.refusals.proofs.Texts.{text-small, checked_short, lines-short, SmallReading, SmallGiven, table-small, answer-small}

-- the check of a line gives 17 or 18
line_small : (before : List SheetLine) (s : SheetLine) → SmallGiven last_of_sheet (check_sheet_line before s)
unfolding check_sheet_line
line_small before s = go (good_line s) (any (clashes_with s) before)
  where
    go : (good other : Bool) → SmallGiven last_of_sheet (cond good (cond other (some 18) none) (some 17))
    go true true = omega arith
    go true false = tt
    go false other = omega arith

check-small : (before : List (List ℤ)) (r : List ℤ) → SmallGiven last_of_sheet (check_sheet_row before r)
unfolding check_sheet_row
check-small before r = line_small _ _

reading_small : (most : ℕ) (reading : Reading) → SmallReading last_of_sheet most reading → SmallAnswer last_of_sheet (lines_read reading)
unfolding lines_read
reading_small most (stopped r) s = s
reading_small most (rows rs ls n) s = tt

-- the refusals of the reader
read_small : (text : Bytes) → SmallAnswer last_of_sheet (read_sheet text)
unfolding read_sheet
read_small text = go (check_text text) refl
  where
    go : (o : Option Refusal) → check_text text ≡ o
        → SmallAnswer {A = List SheetLine} last_of_sheet (elim o [ some r ↦ refused r | none ↦ lines_read (read_table true check_sheet_row sheet_table 1 (lines text)) ])
    go (some r) e = small_wide (subst (SmallCheck last_of_text) e (text-small text))
    go none e =
        let short : 1 + length (lines text) ≤ suc max_text = omega (arith, lines-short text, checked_short text e) in
        reading_small (suc max_text) (read_table true check_sheet_row sheet_table 1 (lines text))
        (table-small last_of_sheet (omega arith) (suc max_text) (omega arith) check_sheet_row check-small true sheet_table 1 (lines text) short)

-- those for too many lines or too little room
output_small : (n room : ℕ) → SmallCheck last_of_text (check_output n room)
unfolding check_output
output_small n room = when-small (ltb room n) (omega arith) (omega arith) (omega arith)

wide_answer : {A : Type 0} (a : Answer A) → SmallAnswer last_of_text a → SmallAnswer last_of_sheet a
wide_answer (refused r) s = small_wide s
wide_answer (full x) s = tt

made-small : (node_room edge_room : ℕ) (a : Answer (List SheetLine)) → SmallAnswer last_of_sheet a → SmallAnswer last_of_sheet (made_of node_room edge_room a)
unfolding made_of made check_made
made-small node_room edge_room (refused r) s = s
made-small node_room edge_room (full ls) s =
    wide_answer (answer (check_made node_room edge_room ls) ls) (answer-small (check_made node_room edge_room ls) ls
    (then-small (when (ltb max_edges (length ls)) 1 1 0) _ (when-small (ltb max_edges (length ls)) (omega arith) (omega arith) (omega arith)) (λ _.
    then-small (check_output (length (sheet_nodes ls)) node_room) _ (output_small (length (sheet_nodes ls)) node_room) (λ _.
    output_small (length (sheet_edges ls)) edge_room))))

lengths-small : (a : Answer (List SheetLine)) → SmallAnswer last_of_sheet a → SmallAnswer last_of_sheet (lengths_of a)
unfolding lengths_of
lengths-small (refused r) s = s
lengths-small (full ls) s = tt

-- the answer of the call that reads a sheet is a small refusal, if it is one
pub sheet_answer-small : (text : Bytes) (nodes edges : List ℤ) → SmallAnswer last_of_sheet (sheet_gives text nodes edges)
unfolding sheet_gives sheet_answer
sheet_answer-small text nodes edges = lengths-small (sheet_answer (length nodes) (length edges) text) (made-small (length nodes) (length edges) (read_sheet text) (read_small text))

-- the refusals of the call that reads a sheet are small
pub sheet_small : (text : Bytes) (nodes edges : List ℤ) {r : Refusal} → refused r ≡ sheet_gives text nodes edges → SmallRefusal last_of_sheet r
sheet_small text nodes edges e = subst (λ (a : Answer TableLengths). SmallAnswer last_of_sheet a) (sym e) (sheet_answer-small text nodes edges)
