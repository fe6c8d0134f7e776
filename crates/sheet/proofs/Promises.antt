-- What the call that reads a sheet promises follows from what reading its lines comes to, and from the tables that are made of them.
use Rattle.std.specs.Prelude.{Result}
use mathlib.Core.Path.{◌≡◌, refl, ap, ◌∙◌}
use mathlib.Core.Bool.{true}
use mathlib.Core.List.{List, []}
use mathlib.Core.Option.{Option, none, some}
use Prim.Native.Nat.{ℕ, ◌≤◌}
use native.Mathlib.Omega.{arith}
use lib.IntN.{ℤ, pos}
use lib.ListN.{length, drop, replicate, length-append, length-replicate, get_or-replicate}
use Rattle.model.specs.Limits.{sheet_numbers}
use Rattle.model.specs.Bytes.{Bytes}
use Rattle.model.specs.MapFile.{lines}
use Rattle.model.specs.Refusals.{Refusal}
use Rattle.model.specs.Calls.{Answer, refused, full, buffer_after}
use Rattle.model.specs.Reader.{check_text, Reading, read_table}
use Rattle.model.specs.Sheet.{SheetLine, size_of, sheet_nodes, sheet_edges}
use Rattle.model.specs.SheetFile.{sheet_table, check_sheet_row, lines_read, read_sheet}
use Rattle.model.specs.SheetCall.{made_conditions, made, made_of, lengths_of, table_in, sheet_answer, sheet_gives, sheet_nodes_after, sheet_edges_after}
use Rattle.model.specs.Answers.{sheet_read_answer}
use Rattle.filerules.proofs.Sheets.{keeps_good}
use Rattle.filerules.proofs.SheetCall.{sheet_full}
use Rattle.sheetlaws.proofs.Taken.{sheet_checked}
use Rattle.sheetlaws.proofs.Walks.{sheet_as_given}
use Rattle.characters.proofs.Text.{checked}
use Rattle.mapfile.proofs.ReadTables.{check-refused, check-taken}
use Rattle.sides.specs.Given.{Stored}
use Rattle.sheettables.specs.Kept.{Sized}
use Rattle.sheettables.specs.Made.{SheetMade}
use Rattle.sheet.specs.Promises.{SheetPromise}
use Rattle.model.specs.declared.SheetSizes.{SheetSizes}
use Rattle.model.specs.declared.Reason.{Reason}

-- no line has given a block its size
pub sized_none : Sized [] (replicate sheet_numbers (pos 0))
unfolding size_of
sized_none = record { whole = length-replicate sheet_numbers (pos 0); size = λ m h. get_or-replicate sheet_numbers m (pos 0) (pos 0) h }

-- what is stored at the front of a slice lies within it
pub stored_within : {numbers before after : List ℤ} {n : ℕ} → Stored numbers before after n → n ≤ length after
stored_within {numbers} {before} {n} s = omega (arith, s.count, ap length s.stands ∙ length-append numbers (drop n before))

-- ---- what reading the lines comes to

module _ (text : Bytes) where
  read_after : {o : Option Refusal} → check_text text ≡ o
      → read_sheet text ≡ elim o [ some r ↦ refused r | none ↦ lines_read (read_table true check_sheet_row sheet_table 1 (lines text)) ]
  unfolding read_sheet
  read_after e = ap (λ (o : Option Refusal). elim o [ some r ↦ refused r | none ↦ lines_read (read_table true check_sheet_row sheet_table 1 (lines text)) ]) e

  -- refusal 12
  pub read_checked : {r : Refusal} → refused r ≡ checked (check_text text) → read_sheet text ≡ refused r
  read_checked e = read_after (check-refused (check_text text) e)

  -- a refusal in the lines, or the lines
  pub read-lines : full tt ≡ checked (check_text text) → {x : Reading} → read_table true check_sheet_row sheet_table 1 (lines text) ≡ x → read_sheet text ≡ lines_read x
  read-lines taken e = read_after (check-taken (check_text text) taken) ∙ ap lines_read e

-- ---- the promise

-- a call whose answer and buffers are those defined keeps the promise
promise : (text : Bytes) (nodes₀ edges₀ : List ℤ) {nodes₁ edges₁ : List ℤ} {given : Result SheetSizes Reason} → sheet_read_answer given ≡ sheet_gives text nodes₀ edges₀
    → nodes₁ ≡ sheet_nodes_after text nodes₀ edges₀ → edges₁ ≡ sheet_edges_after text nodes₀ edges₀ → SheetPromise text nodes₀ nodes₁ edges₀ edges₁ given
unfolding sheet_gives sheet_nodes_after sheet_edges_after lengths_of table_in buffer_after made_conditions
promise text nodes₀ edges₀ e n d =
    record {
      answer = e;
      nodes = n;
      edges = d;
      held = λ ls keeps unmet. let answer = sheet_full (length nodes₀) (length edges₀) text ls keeps unmet in let good = keeps_good keeps in
          record {
            answer = e ∙ ap lengths_of answer;
            nodes = n ∙ ap (λ (a : Answer (List SheetLine)). buffer_after (table_in sheet_nodes a) nodes₀) answer;
            edges = d ∙ ap (λ (a : Answer (List SheetLine)). buffer_after (table_in sheet_edges a) edges₀) answer;
            taken = sheet_checked ls good (omega (arith, unmet.0));
            walks = sheet_as_given ls good;
          };
    }

module _ (text : Bytes) (nodes₀ edges₀ : List ℤ) where
  -- a sheet that is refused: both buffers are untouched
  pub promise_refused : {r : Refusal} {given : Result SheetSizes Reason} → sheet_read_answer given ≡ refused r → read_sheet text ≡ refused r
      → SheetPromise text nodes₀ nodes₀ edges₀ edges₀ given
  unfolding sheet_gives sheet_nodes_after sheet_edges_after sheet_answer made_of lengths_of table_in buffer_after
  promise_refused e q = promise text nodes₀ edges₀ (rw q e) (rw q refl) (rw q refl)

  -- a sheet whose lines are read
  pub promise_made : (ls : List SheetLine) {nodes₁ edges₁ : List ℤ} {given : Result SheetSizes Reason} → read_sheet text ≡ full ls
      → SheetMade (made (length nodes₀) (length edges₀) ls) nodes₀ nodes₁ edges₀ edges₁ given → SheetPromise text nodes₀ nodes₁ edges₀ edges₁ given
  unfolding sheet_gives sheet_nodes_after sheet_edges_after sheet_answer made_of
  promise_made ls q m = promise text nodes₀ edges₀ (rw q m.answer) (rw q m.nodes) (rw q m.edges)
