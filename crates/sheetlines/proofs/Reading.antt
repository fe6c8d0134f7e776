-- The lines of a sheet, line by line: what is kept of those that were read, and those that are left.
use mathlib.Core.Path.{◌≡◌, refl, sym, ap, ◌∙◌}
use mathlib.Core.Bool.{true}
use mathlib.Core.Logic.{◌⊎◌, inl, inr, ⊎_elim, ◌↔◌}
use mathlib.Core.List.Memᴰ
use mathlib.Core.List.{List, [], ◌∷◌, ◌++◌, map, map-append, flat_map, append-nil, append_assoc}
use mathlib.Core.Option.{Option, none, some}
use Prim.Native.Nat.{ℕ, suc, ◌≤◌, ◌<◌}
use native.Mathlib.Omega.{arith}
use lib.IntN.{ℤ, nat_abs}
use lib.ListN.{length, take, drop, set}
use lib.Seq.{take_at}
use Rattle.lists.specs.Lists.{◌∈◌}
use Rattle.model.specs.Limits.{max_edges}
use Rattle.model.specs.Bytes.{Bytes}
use Rattle.model.specs.MapFile.{lines}
use Rattle.model.specs.Answers.{numbered}
use Rattle.model.specs.Reader.{row_of, ValueLine, bad, good, judged, Reading, stopped, rows, with_row, stop, with_line, read_values}
use Rattle.model.specs.Sheet.{SheetLine, GoodSheet}
use Rattle.model.specs.SheetFile.{line_of_row, check_sheet_row}
use Rattle.filerules.proofs.RowChecks.{last_step}
use Rattle.cursor.specs.declared.Cursor.{Cursor}
use Rattle.cursor.specs.Parts.{first_line, later_lines}
use Rattle.cursor.specs.Given.{InText, Stands}
use Rattle.cursor.proofs.Lines.{lines_none, lines_more, later_behind}
use Rattle.columns.specs.declared.Columns.{Columns}
use Rattle.columns.specs.Given.{layout_in}
use Rattle.sides.specs.Given.{Appended}
use Rattle.sides.proofs.TableRows.{Held, held_none, held_more, held_stored}
use Rattle.sheettables.specs.Kept.{line_room, line_numbers, Sized}
use Rattle.sheetlines.specs.Given.{line_at, check_line_by, LinesKept}
use Rattle.sheetlines.proofs.Judging.{judged_out, good_checked}
use Rattle.sheetlines.proofs.Keeping.{good_more, sized_more, check-same}

-- ---- rows that were read

-- rows that were read, the nearest first, before others
abbrev behind : List (List ℤ) → List (List ℤ) → List (List ℤ)
behind [] rs = rs
behind (r ∷ done) rs = behind done (r ∷ rs)

behind_append : (done rs : List (List ℤ)) → behind done rs ≡ behind done [] ++ rs
behind_append [] rs = refl
behind_append (r ∷ done) rs =
    behind_append done (r ∷ rs)
    ∙ sym (ap (λ (l : List (List ℤ)). l ++ rs) (behind_append done (r ∷ [])) ∙ append_assoc (behind done []) (r ∷ []) rs)

-- the lines that were read, in their order
abbrev lines_done : List (List ℤ) → List SheetLine
lines_done done = map line_of_row (behind done [])

done_more : (r : List ℤ) (done : List (List ℤ)) → lines_done (r ∷ done) ≡ lines_done done ++ (line_of_row r ∷ [])
done_more r done = ap (map line_of_row) (behind_append done (r ∷ [])) ∙ map-append line_of_row (behind done []) (r ∷ [])

-- they are the same lines, the nearest first or not
done_members : (done rs : List (List ℤ)) (e : SheetLine) → (e ∈ map line_of_row (behind done rs)) ↔ ((e ∈ map line_of_row done) ⊎ (e ∈ map line_of_row rs))
done_members [] rs e = (inr, ⊎_elim (λ m. absurd (Memᴰ.not-nil m)) (λ m. m))
done_members (r ∷ done) rs e =
    let w = done_members done (r ∷ rs) e in (
      λ m. ⊎_elim (λ k. inl (Memᴰ.tail k)) (λ k. ⊎_elim (λ i. inl (Memᴰ.head i)) inr (Memᴰ.cases_cons k)) (w.0 m),
      λ s. w.1 (⊎_elim (λ m. ⊎_elim (λ i. inr (Memᴰ.head i)) inl (Memᴰ.cases_cons m)) (λ m. inr (Memᴰ.tail m)) s),
    )

done-same : (done : List (List ℤ)) (e : SheetLine) → (e ∈ map line_of_row done) ↔ (e ∈ lines_done done)
done-same done e =
    let w = done_members done [] e in
    (λ m. w.1 (inl m), λ m. ⊎_elim (λ k. k) (λ k. absurd (Memᴰ.not-nil k)) (w.0 m))

-- rows before what reading the lines after them comes to
abbrev with_done : List (List ℤ) → Reading → Reading
with_done done (stopped r) = stopped r
with_done done (rows rs rest n) = rows (behind done rs) rest n

with-row : (r : List ℤ) (done : List (List ℤ)) (x : Reading) → with_done done (with_row r x) ≡ with_done (r ∷ done) x
unfolding with_row
with-row r done (stopped f) = refl
with-row r done (rows rs rest n) = refl

with_none : (x : Reading) → with_done [] x ≡ x
with_none (stopped r) = refl
with_none (rows rs rest n) = refl

numbers_more : (ls : List SheetLine) (s : SheetLine) → flat_map line_numbers (ls ++ (s ∷ [])) ≡ flat_map line_numbers ls ++ line_numbers s
unfolding flat_map
numbers_more [] s = append-nil (line_numbers s)
numbers_more (l ∷ ls) s = ap (λ (t : List ℤ). line_numbers l ++ t) (numbers_more ls s) ∙ sym (append_assoc (line_numbers l) (flat_map line_numbers ls) (line_numbers s))

numbers_three : (s : SheetLine) → length (line_numbers s) ≡ 3
unfolding line_numbers
numbers_three s = refl

-- ---- lines of a sheet

-- lines of the sheet from c₀ on are read, and the cursor c stands before the others
pub record LinesLeft (text : Bytes) (cs : Columns) (kept₀ : List ℤ) (c₀ : Cursor) (kept sizes : List ℤ) (c : Cursor) (n : ℕ) : Type 0 where
  pub done : List (List ℤ)
  pub same : read_values true check_sheet_row (layout_in cs) c₀.line [] (lines (drop c₀.at text))
      ≡ with_done done (read_values true check_sheet_row (layout_in cs) c.line done (lines (drop c.at text)))
  pub in_text : InText text c
  pub held : Held line_room 3 (flat_map line_numbers (lines_done done)) kept₀ kept n
  pub sized : Sized (lines_done done) sizes
  pub good : GoodSheet (lines_done done)

-- none is read
pub lines_start : {text : Bytes} {c : Cursor} (cs : Columns) (kept : List ℤ) {sizes : List ℤ} → InText text c → Sized [] sizes
    → LinesLeft text cs kept c kept sizes c 0
unfolding flat_map
lines_start {text} {c} cs kept p z =
    record {
      done = [];
      same = sym (with_none (read_values true check_sheet_row (layout_in cs) c.line [] (lines (drop c.at text))));
      in_text = p;
      held = held_none line_room 3 (suc max_edges) kept refl;
      sized = z;
      good = record { good = λ s m. absurd (Memᴰ.not-nil m); sizes = λ e s m. absurd (Memᴰ.not-nil m) };
    }

module _ {text : Bytes} {cs : Columns} {kept₀ : List ℤ} {c₀ : Cursor} {kept sizes : List ℤ} {c : Cursor} {n : ℕ} (l : LinesLeft text cs kept₀ c₀ kept sizes c n) where
  -- what is read from c₀ on
  abbrev pub read_from : Reading
  read_from = read_values true check_sheet_row (layout_in cs) c₀.line [] (lines (drop c₀.at text))

  -- no line is left
  pub lines-all : length text ≤ c.at → LinesKept read_from kept₀ kept sizes n
  unfolding read_values
  lines-all end =
      let stands = held_stored l.held in
      record {
        done = behind l.done [];
        line = c.line;
        read = l.same ∙ rw (lines_none text c.at end) refl;
        kept = record {
          good = l.good;
          lines = ap (take n) stands.stands ∙ take_at (take line_room (flat_map line_numbers (lines_done l.done))) (drop n kept₀) n (sym stands.count);
          sizes = l.sized;
        };
        stands = stands;
      }

  -- the check of the line at the cursor by the sizes is its check after the lines before
  line-judged : (o : Option (List ℤ)) → judged (check_line_by sizes) [] o ≡ judged check_sheet_row l.done o
  unfolding judged
  line-judged none = refl
  line-judged (some r) =
      ap (λ (k : Option ℕ). elim k [ none ↦ good r | some number ↦ bad number ])
      (check-same l.good l.sized (done-same l.done) l.done refl r)

  module _ (more : c.at < length text) where
    line_read : {v : ValueLine} → line_at text c cs sizes ≡ v → read_from
        ≡ with_done l.done (with_line c.line v (λ r. read_values true check_sheet_row (layout_in cs) (suc c.line) (r ∷ l.done) (lines (later_lines (drop c.at text)))))
    line_read {v} e =
        let later = lines (later_lines (drop c.at text)) in
        l.same
        ∙ ap (λ (ls : List Bytes). with_done l.done (read_values true check_sheet_row (layout_in cs) c.line l.done ls)) (lines_more text c.at more)
        ∙ ap (with_done l.done) (last_step check_sheet_row (layout_in cs) c.line l.done (first_line (drop c.at text)) later)
        ∙ ap (λ (w : ValueLine). with_done l.done (with_line c.line w (λ r. read_values true check_sheet_row (layout_in cs) (suc c.line) (r ∷ l.done) later)))
        (sym (line-judged (row_of (layout_in cs) (first_line (drop c.at text)))) ∙ e)

    -- a line that is refused
    pub lines-bad : {k : ℕ} → line_at text c cs sizes ≡ bad k → read_from ≡ stopped (numbered k 6 c.line)
    unfolding with_line stop
    lines-bad e = line_read e

    module _ {d : Cursor} (s : Stands text (later_lines (drop c.at text)) (suc c.line) d) where
      -- the next line starts behind this one
      pub lines_onward : c.at < d.at
      lines_onward = later_behind text c.at more s

      -- a line that is taken
      pub lines_next : {next : List ℤ} {k : ℕ} (r : List ℤ) → line_at text c cs sizes ≡ good r → line_room ≤ length kept₀
          → Appended line_room (line_numbers (line_of_row r)) kept next n k
          → LinesLeft text cs kept₀ c₀ next (set sizes (nat_abs (line_of_row r).block) (line_of_row r).size) d k
      unfolding with_line
      lines_next r e room a =
          let taken = judged_out (check_line_by sizes) [] (row_of (layout_in cs) (first_line (drop c.at text))) e in
          let check = sym (check-same l.good l.sized (done-same l.done) l.done refl r) ∙ taken.1 in
          let fine = good_checked l.done r check in
          let better = good_more l.good fine.0 (λ w. fine.1 (w.0, (done-same l.done w.0).1 w.1, w.2, w.3)) in
          record {
            done = r ∷ l.done;
            same = line_read e ∙ with-row r l.done _ ∙ rw (s.line, s.before) refl;
            in_text = record { within = s.within; low = omega (arith, l.in_text.low, s.line, lines_onward) };
            held = rw (done_more r l.done, numbers_more (lines_done l.done) (line_of_row r)) (held_more l.held room (numbers_three (line_of_row r)) (omega arith) a);
            sized = rw (done_more r l.done) (sized_more (line_of_row r) l.sized better);
            good = rw (done_more r l.done) better;
          }
