-- The text of a sheet: it is read as lines exactly where it keeps the file rules with these, and so it keeps them with one list of lines at most;
-- the reader's refusals are exactly its conditions, 12, 13, 14, 17 and 18.
use mathlib.Core.Path.{◌≡◌, refl, sym, ap, subst, ◌∙◌}
use mathlib.Core.Bool.{Bool, true, false, not, cond}
use mathlib.Core.Logic.{◌≢◌, ◌⊎◌, inl, inr, ⊎_elim, ◌↔◌}
use mathlib.Core.List.Memᴰ
use mathlib.Core.List.{List, [], ◌∷◌, ◌++◌, map, append-nil}
use mathlib.Core.Option.{Option, none, some}
use Prim.Native.Nat.{ℕ}
use native.Mathlib.Omega.{arith}
use lib.IntN.{ℤ, pos, ◌+ℤ◌}
use lib.Signed.{◌≤ℤ◌, ◌<ℤ◌}
use Rattle.integers.proofs.Tests.{Test, passed, le?, lt?, eq_z?}
use Rattle.lists.specs.Lists.{◌∈◌, any}
use Rattle.integers.proofs.Linear.{ints}
use Rattle.lists.proofs.Decisions.{Decides, test_map, not?, and?, decides_and, decides_not, decides_le, any?, test_stable}
use Rattle.model.specs.Limits.{sheet_numbers, sheet_bytes}
use Rattle.model.specs.Bytes.{Bytes}
use Rattle.model.specs.MapFile.{Values, all_names, lines, whole_text_conditions, names, line_conditions}
use Rattle.model.specs.FileRules.{AllMeetNone, MeetsNone}
use Rattle.model.specs.Refusals.{Refusal, Condition, NoneHolds, ◌next◌}
use Rattle.model.specs.Checks.{◌then◌}
use Rattle.model.specs.Calls.{Answer, refused, full}
use Rattle.model.specs.Reader.{check_text, Reading, stopped, rows, read_table}
use Rattle.model.specs.Sheet.{SheetLine, SheetNumber, BadLine, no_initiator, no_block, low_base, low_size, high_end, OtherSize, GoodSheet}
use Rattle.model.specs.SheetFile.{sheet_line, bad_line, other_size, sheet_table, KeepsSheet, sheet_file_conditions, line_of_row, is_sheet_number, good_bytes, good_line, clashes_with, check_sheet_line, check_sheet_row, lines_read, read_sheet}
use Rattle.model.proofs.Settled.{Settled, settled_next}
use Rattle.filerules.proofs.Lines.{ended, ended-lines}
use Rattle.filerules.proofs.Words.{sheet_regular}
use Rattle.filerules.proofs.Values.{numbers_in}
use Rattle.filerules.proofs.RowChecks.{Decided, CheckOf}
use Rattle.filerules.proofs.Text.{text_settled, text-passed}
use Rattle.filerules.proofs.Refusals.{Reads, refusal_in, table_settles, settled_answers}
use Rattle.filerules.proofs.TableLines.{lines_of, table-ended, Clean, clean_lines, clean_passes, table_clean, final, ends_final, table-read, read_table_lem}

-- ---- 17 and 18, decided

-- is_sheet_number decides whether a number is in 0..999
pub number? : (n : ℤ) → Decides (SheetNumber n) (is_sheet_number n)
unfolding is_sheet_number
number? n = decides_and (decides_le (pos 0) n) (test_map (λ h. h) (λ h k. omega (arith, ints, h, k)) (lt? n (pos sheet_numbers)))

-- base and size keep their limits, or do not
abbrev pub GoodBytes : SheetLine → Type 0
GoodBytes s = ((pos 0 ≤ℤ s.base) × (pos 1 ≤ℤ s.size)) × ((s.base +ℤ s.size) ≤ℤ pos sheet_bytes)

abbrev pub BadBytes : SheetLine → Type 0
BadBytes s = ((s.base <ℤ pos 0) ⊎ (s.size <ℤ pos 1)) ⊎ (pos sheet_bytes <ℤ (s.base +ℤ s.size))

-- the test on base and size
pub bytes? : (s : SheetLine) → Test (GoodBytes s) (BadBytes s) (good_bytes s)
unfolding good_bytes
bytes? s = and? (and? (le? (pos 0) s.base) (le? (pos 1) s.size)) (le? (s.base +ℤ s.size) (pos sheet_bytes))

-- good_line fails exactly where the line is bad
pub bad? : (s : SheetLine) → Decides (BadLine s) (not (good_line s))
unfolding good_line
bad? s = test_map bad good (not? (and? (and? (number? s.initiator) (number? s.block)) (bytes? s)))
  where
    bad : ((SheetNumber s.initiator → ⊥) ⊎ (SheetNumber s.block → ⊥)) ⊎ BadBytes s → BadLine s
    bad (inl (inl h)) = no_initiator h
    bad (inl (inr h)) = no_block h
    bad (inr (inl (inl h))) = low_base h
    bad (inr (inl (inr h))) = low_size h
    bad (inr (inr h)) = high_end h

    good : (SheetNumber s.initiator × SheetNumber s.block) × GoodBytes s → BadLine s → ⊥
    good p (no_initiator h) = h p.0.0
    good p (no_block h) = h p.0.1
    good p (low_base h) = omega (arith, ints, h, p.1.0.0)
    good p (low_size h) = omega (arith, ints, h, p.1.0.1)
    good p (high_end h) = omega (arith, ints, h, p.1.1)

-- an earlier line clashes exactly where it gives the block another size
pub other? : (earlier : List SheetLine) (s : SheetLine) → Decides (OtherSize earlier s) (any (clashes_with s) earlier)
unfolding clashes_with
other? earlier s =
    test_map (λ w. (w.0, w.1, w.2.0, w.2.1)) (λ h w. h w.0 w.1 (w.2, w.3))
    (any? (λ e. clash? e) earlier)
  where
    clash? : (e : SheetLine) → Decides ((e.block ≡ s.block) × (e.size ≢ s.size)) (clashes_with s e)
    clash? e = decides_and (eq_z? e.block s.block) (decides_not (eq_z? e.size s.size))

-- ---- rows of numbers and lines

line_row : (value : Values) → line_of_row (map value (all_names sheet_table)) ≡ sheet_line value
unfolding line_of_row sheet_table
line_row value = refl

-- the lines of the numbers of rows
pub lines_rows : (values : List Values) → map line_of_row (numbers_in (all_names sheet_table) values) ≡ map sheet_line values
lines_rows [] = refl
lines_rows (value ∷ values) = cc (line_row value, lines_rows values)

bad_decided : Decided (all_names sheet_table) bad_line
bad_decided =
    record {
      test = λ before r. not (good_line (line_of_row r));
      decides = λ before value. subst (λ (s : SheetLine). Decides (BadLine (sheet_line value)) (not (good_line s))) (sym (line_row value)) (bad? (sheet_line value));
    }

other_decided : Decided (all_names sheet_table) other_size
other_decided =
    record {
      test = λ before r. any (clashes_with (line_of_row r)) (map line_of_row before);
      decides = λ before value. subst (λ (s : SheetLine). Decides (OtherSize (map sheet_line before) (sheet_line value)) (any (clashes_with s) (map line_of_row (numbers_in (all_names sheet_table) before))))
          (sym (line_row value))
          (subst (λ (ls : List SheetLine). Decides (OtherSize (map sheet_line before) (sheet_line value)) (any (clashes_with (sheet_line value)) ls)) (sym (lines_rows before))
          (other? (map sheet_line before) (sheet_line value)));
    }

-- the check of a row of a sheet is that of its conditions: 17, then 18
pub sheet_check : CheckOf (all_names sheet_table) sheet_table.conditions check_sheet_row
unfolding sheet_table check_sheet_row check_sheet_line bad_decided other_decided
sheet_check = (
  bad_decided,
  (λ before r. cond (any (clashes_with (line_of_row r)) (map line_of_row before)) (some 18) none),
  (λ before r. choice (good_line (line_of_row r)) (any (clashes_with (line_of_row r)) (map line_of_row before))),
  (other_decided, (λ before r. none), (λ before r. refl), λ before r. refl),
)
  where
    choice : (g o : Bool) → cond {A = Option ℕ} g (cond o (some 18) none) (some 17) ≡ cond (not g) (some 17) (cond o (some 18) none)
    choice true o = refl
    choice false o = refl

-- ---- a sheet that neither 17 nor 18 is given for

-- of lines that meet none of the conditions, after lines before them, none is bad
lines-good : (before values : List Values) → AllMeetNone sheet_table.conditions before values → (s : SheetLine) → s ∈ map sheet_line values → BadLine s → ⊥
unfolding AllMeetNone MeetsNone sheet_table
lines-good before [] u s m b = absurd (Memᴰ.not-nil m)
lines-good before (value ∷ values) u s m b =
    ⊎_elim (λ e. u.0.0 (subst BadLine e b)) (λ k. lines-good (value ∷ before) values u.1 s k b) (Memᴰ.cases_cons m)

-- a line before them and one of them give one block one size
lines-before : (before values : List Values) → AllMeetNone sheet_table.conditions before values → (e s : SheetLine) → e ∈ map sheet_line before → s ∈ map sheet_line values
    → e.block ≡ s.block → e.size ≡ s.size
unfolding AllMeetNone MeetsNone sheet_table
lines-before before [] u e s k m q = absurd (Memᴰ.not-nil m)
lines-before before (value ∷ values) u e s k m q =
    ⊎_elim (λ i. test_stable (eq_z? e.size s.size) (λ n. u.0.1.0 (subst (OtherSize (map sheet_line before)) i (e, k, q, n))))
    (λ j. lines-before (value ∷ before) values u.1 e s (Memᴰ.tail k) j q) (Memᴰ.cases_cons m)

-- and so do two of them
lines-sizes : (before values : List Values) → AllMeetNone sheet_table.conditions before values → (e s : SheetLine) → e ∈ map sheet_line values → s ∈ map sheet_line values
    → e.block ≡ s.block → e.size ≡ s.size
unfolding AllMeetNone sheet_table
lines-sizes before [] u e s k m q = absurd (Memᴰ.not-nil m)
lines-sizes before (value ∷ values) u e s k m q = go (Memᴰ.cases_cons k) (Memᴰ.cases_cons m) (lines-sizes (value ∷ before) values u.1 e s)
  where
    later : (e s : SheetLine) → e ≡ sheet_line value → s ∈ map sheet_line values → e.block ≡ s.block → e.size ≡ s.size
    later e s i j q = lines-before (value ∷ before) values u.1 e s (Memᴰ.head i) j q

    go : (e ≡ sheet_line value) ⊎ (e ∈ map sheet_line values) → (s ≡ sheet_line value) ⊎ (s ∈ map sheet_line values)
        → (e ∈ map sheet_line values → s ∈ map sheet_line values → e.block ≡ s.block → e.size ≡ s.size) → e.size ≡ s.size
    go (inl i) (inl j) rec = ap (λ (l : SheetLine). l.size) (i ∙ sym j)
    go (inl i) (inr j) rec = later e s i j q
    go (inr i) (inl j) rec = sym (later s e j i (sym q))
    go (inr i) (inr j) rec = rec i j q

-- the lines of a text that keeps the rules are those of a good sheet
pub keeps_good : {text : Bytes} {ls : List SheetLine} → KeepsSheet text ls → GoodSheet ls
keeps_good k =
    rw k.lines (record {
      good = lines-good [] k.table.rows k.table.meets_none;
      sizes = lines-sizes [] k.table.rows k.table.meets_none;
    })

-- ---- from the rules to the reader

module _ {text : Bytes} {ls : List SheetLine} (k : KeepsSheet text ls) where
  rule_lines : List Bytes
  rule_lines = lines_of k.table.fields k.table.rows

  rules-text : text ≡ ended rule_lines
  unfolding rule_lines
  rules-text = k.writes ∙ table-ended k.table.fields k.table.rows

  rules_clean : (l : Bytes) → l ∈ rule_lines → Clean l
  unfolding rule_lines
  rules_clean l m = table_clean sheet_regular k.table l m

  -- a text that keeps the rules is read as its lines
  pub sheet_read : read_sheet text ≡ full ls
  unfolding read_sheet lines_read rule_lines
  sheet_read =
      let r = table-read sheet_regular check_sheet_row sheet_check k.table final 1 in
      ap (λ o. elim o [ some r ↦ refused r | none ↦ lines_read (read_table true check_sheet_row sheet_table 1 (lines text)) ]) (clean_passes rules-text rules_clean k.short)
      ∙ ap (λ (l : List Bytes). lines_read (read_table true check_sheet_row sheet_table 1 l)) (clean_lines rules-text rules_clean ∙ sym (append-nil rule_lines))
      ∙ ap lines_read r.1
      ∙ ap full (lines_rows k.table.rows ∙ sym k.lines)

-- ---- from the reader to the rules

refused_full : {r : Refusal} {ls : List SheetLine} → refused r ≡ full ls → ⊥
refused_full e = let z : ◌≡◌ {A = ℕ} 0 1 = cc in omega arith

-- lines that were read are those of a text that keeps the rules
lines-rules : (text : Bytes) (ls : List SheetLine) → check_text text ≡ none → (reading : Reading) → read_table true check_sheet_row sheet_table 1 (lines text) ≡ reading
    → lines_read reading ≡ full ls → KeepsSheet text ls
unfolding lines_read
lines-rules text ls passes (stopped r) e q = absurd (refused_full q)
lines-rules text ls passes (rows rs rest n) e q =
    let passed = text-passed text passes in
    let t = read_table_lem sheet_regular check_sheet_row sheet_check true 1 n (lines text) rs rest e in
    let given : ls ≡ map line_of_row rs = cc in
    let all : lines text ≡ lines_of t.table.fields t.table.rows =
    t.writes ∙ ap (λ (z : List Bytes). lines_of t.table.fields t.table.rows ++ z) (ends_final t.ends) ∙ append-nil (lines_of t.table.fields t.table.rows) in
    record {
      table = t.table;
      short = passed.0;
      writes = sym (ended-lines text passed.1) ∙ ap ended all ∙ sym (table-ended t.table.fields t.table.rows);
      lines = given ∙ ap (map line_of_row) t.numbers ∙ lines_rows t.table.rows;
    }

sheet_rules : (text : Bytes) (ls : List SheetLine) → read_sheet text ≡ full ls → KeepsSheet text ls
unfolding read_sheet
sheet_rules text ls e = go (check_text text) refl e
  where
    go : (o : Option Refusal) → check_text text ≡ o
        → elim o [ some r ↦ refused r | none ↦ lines_read (read_table true check_sheet_row sheet_table 1 (lines text)) ] ≡ full ls → KeepsSheet text ls
    go none q e = lines-rules text ls q (read_table true check_sheet_row sheet_table 1 (lines text)) refl e
    go (some r) q e = absurd (refused_full e)

-- a text is read as lines exactly where it keeps the rules with these
pub sheet_keeps : (text : Bytes) (ls : List SheetLine) → (read_sheet text ≡ full ls) ↔ KeepsSheet text ls
sheet_keeps text ls = (sheet_rules text ls, sheet_read)

-- and so it keeps them with one list of lines at most
pub sheet_unique : (text : Bytes) (ks ls : List SheetLine) → KeepsSheet text ks → KeepsSheet text ls → ks ≡ ls
sheet_unique text ks ls k l = let p = sheet_read k in let q = sheet_read l in cc

-- ---- the conditions of the text

lines_settle : (reading : Reading) (cs : List Condition) → Reads [] reading cs → Settled (refusal_in (lines_read reading)) cs
unfolding lines_read
lines_settle (stopped r) cs s = s
lines_settle (rows rs ls n) cs s = s none tt

-- reading a sheet settles the conditions of its text
pub sheet_settles : (text : Bytes) → Settled (refusal_in (read_sheet text)) (sheet_file_conditions text)
unfolding read_sheet sheet_file_conditions ◌then◌
sheet_settles text = go (check_text text) (text_settled text)
  where
    reading : Answer (List SheetLine)
    reading = lines_read (read_table true check_sheet_row sheet_table 1 (lines text))

    read : Settled (refusal_in reading) (line_conditions 1 (names sheet_table []) (lines text))
    read =
        lines_settle (read_table true check_sheet_row sheet_table 1 (lines text)) (line_conditions 1 (names sheet_table []) (lines text))
        (table_settles sheet_regular check_sheet_row sheet_check [] 1 (lines text))

    go : (o : Option Refusal) → Settled o (whole_text_conditions text)
        → Settled (refusal_in {A = List SheetLine} (elim o [ some r ↦ refused r | none ↦ reading ]))
        (whole_text_conditions text next line_conditions 1 (names sheet_table []) (lines text))
    go none s = settled_next none (refusal_in reading) (whole_text_conditions text) (line_conditions 1 (names sheet_table []) (lines text)) s (λ h. read)
    go (some r) s = settled_next (some r) (refusal_in reading) (whole_text_conditions text) (line_conditions 1 (names sheet_table []) (lines text)) s (λ h. read)

-- a text keeps the rules with some lines exactly where no condition of it holds
pub sheet-conditions : (text : Bytes) → ((ls : List SheetLine) × KeepsSheet text ls) ↔ NoneHolds (sheet_file_conditions text)
sheet-conditions text =
    let e = (settled_answers (read_sheet text) (sheet_file_conditions text) (sheet_settles text)).gives in
    (λ w. e.0 (w.0, sheet_read w.1), λ h. let w = e.1 h in (w.0, sheet_rules text w.0 w.1))
