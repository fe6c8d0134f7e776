-- The rows of a table, line by line: those of each side or role stand in a slice as long as its room lasts.
use mathlib.Core.Path.{◌≡◌, refl, sym, ap, subst, ◌∙◌}
use mathlib.Core.Bool.{Bool, true, false, not, cond, ◌&&◌}
use mathlib.Core.List.{List, [], ◌∷◌, ◌++◌, append_assoc, append-nil}
use mathlib.Core.Option.{Option, none, some}
use Prim.Native.Nat.{ℕ, zero, suc, ◌+◌, ◌-◌, ◌*◌, ◌≤◌, ◌<◌}
use native.Mathlib.Nat.{mul-suc, mul-zero}
use native.Mathlib.Numerals.{add-one}
use native.Mathlib.Omega.{arith}
use borrow.Author.Tests.{le-leb, lt-leb}
use lib.IntN.{ℤ, pos}
use lib.ListN.{length, take, drop, length-append, length-take, length-drop}
use lib.Seq.{drop-drop, take-nil, take_all, take_at, drop_at, take-append-le}
use Rattle.integers.specs.Integers.{eq_z}
use Rattle.lists.specs.Lists.{is_nil}
use Rattle.model.specs.Bytes.{Bytes}
use Rattle.model.specs.MapFile.{lines}
use Rattle.model.specs.Answers.{numbered}
use Rattle.model.specs.Reader.{Layout, row_of, check_side_or_role, ValueLine, bad, good, judged, Reading, stopped, rows, with_row, stop, with_line, read_values, rows_with}
use Rattle.cursor.specs.declared.Cursor.{Cursor}
use Rattle.cursor.specs.Parts.{first_line, later_lines}
use Rattle.cursor.specs.Given.{InText, Stands}
use Rattle.cursor.proofs.Lines.{lines_none, lines_more, later_behind, later_empty}
use Rattle.columns.specs.declared.Columns.{Columns}
use Rattle.columns.specs.Given.{layout_in}
use Rattle.sides.specs.Given.{line_at, Stored, Appended, RowsRead}

-- ---- numbers of a side or role

rows_with_append : (k : ℤ) (a b : List (List ℤ)) → rows_with k (a ++ b) ≡ rows_with k a ++ rows_with k b
unfolding rows_with
rows_with_append k [] b = refl
rows_with_append k ([] ∷ a) b = rows_with_append k a b
rows_with_append k ((x ∷ r) ∷ a) b = go (eq_z x k) (rows_with_append k a b)
  where
    go : (t : Bool) → rows_with k (a ++ b) ≡ rows_with k a ++ rows_with k b
        → cond t (r ++ rows_with k (a ++ b)) (rows_with k (a ++ b)) ≡ cond t (r ++ rows_with k a) (rows_with k a) ++ rows_with k b
    go true e = rw e (sym (append_assoc r (rows_with k a) (rows_with k b)))
    go false e = e

-- a row of the side or role
rows_with-same : (k x : ℤ) (r : List ℤ) (a : List (List ℤ)) → eq_z x k ≡ true → rows_with k (a ++ ((x ∷ r) ∷ [])) ≡ rows_with k a ++ r
unfolding rows_with
rows_with-same k x r a e = rows_with_append k a ((x ∷ r) ∷ []) ∙ rw (e, append-nil r) refl

-- a row of the other
rows_with-other : (k x : ℤ) (r : List ℤ) (a : List (List ℤ)) → eq_z x k ≡ false → rows_with k (a ++ ((x ∷ r) ∷ [])) ≡ rows_with k a
unfolding rows_with
rows_with-other k x r a e = rows_with_append k a ((x ∷ r) ∷ []) ∙ rw e (append-nil (rows_with k a))

-- ---- numbers in a slice

-- the numbers of rows, cut to the room of whole rows, stand at the front of the slice
pub record Held (room width : ℕ) (numbers before after : List ℤ) (n : ℕ) : Type 0 where
  pub count : n ≡ length (take room numbers)
  pub stands : after ≡ take room numbers ++ drop n before
  pub left : ℕ
  pub whole : n + width * left ≡ room

-- what is held is stored
pub held_stored : {room width : ℕ} {numbers before after : List ℤ} {n : ℕ} → Held room width numbers before after n
    → Stored (take room numbers) before after n
held_stored h = record { count = h.count; stands = h.stands }

-- no number yet
pub held_none : (room width most : ℕ) (before : List ℤ) → room ≡ width * most → Held room width [] before before 0
held_none room width most before e = record { count = rw (take-nil room) refl; stands = rw (take-nil room) refl; left = most; whole = omega (arith, e) }

module _ {room width : ℕ} {numbers before after : List ℤ} {n : ℕ} (h : Held room width numbers before after n) (space : room ≤ length before) where
  -- they have their room
  pub held-within : n ≤ room
  held-within = omega (arith, h.whole)

  -- the slice keeps its length
  pub held_length : length after ≡ length before
  held_length =
      ap length h.stands ∙ length-append (take room numbers) (drop n before) ∙ omega (arith, h.count, length-drop n before, held-within)

  -- the numbers of one row more. Where no row is left of the room, what is cut stays as it is: the numbers held fill the room already.
  -- Where one is left, fewer numbers are held than the room has, so that they are all numbers so far, and the row stands behind them
  pub held_more : {row next : List ℤ} {m : ℕ} → length row ≡ width → 0 < width → Appended room row after next n m
      → Held room width (numbers ++ row) before next m
  held_more {row} {next} {m} long Some-number a = go h.left h.whole
    where
      go : (left : ℕ) → n + width * left ≡ room → Held room width (numbers ++ row) before next m
      go zero e =
          let full : n ≡ room = omega (arith, mul-zero width) in
          let over : room < n + length row = omega arith in
          let cut : take room (numbers ++ row) ≡ take room numbers = take-append-le room numbers row (omega (arith, h.count, length-take room numbers)) in
          let same : m ≡ n = a.count ∙ rw (lt-leb (n + length row) room over) refl in
          record {
            count = rw (same, cut) h.count;
            stands = a.stands ∙ rw (lt-leb (n + length row) room over, cut, same) h.stands;
            left = 0;
            whole = rw same e;
          }
      go (suc k) e =
          let fits : n + length row ≤ room = omega (arith, mul-suc width k) in
          let few : length numbers ≡ n = omega (arith, h.count, length-take room numbers) in
          let old : take room numbers ≡ numbers = take_all room numbers (omega arith) in
          let all : take room (numbers ++ row) ≡ numbers ++ row = take_all room (numbers ++ row) (omega (arith, length-append numbers row)) in
          let more : m ≡ n + length row = a.count ∙ rw (le-leb (n + length row) room fits) refl in
          let standing : after ≡ numbers ++ drop n before = h.stands ∙ rw old refl in
          let front : take n after ≡ numbers = ap (take n) standing ∙ take_at numbers (drop n before) n few in
          let behind : drop (n + length row) after ≡ drop (n + length row) before =
          sym (drop-drop (length row) n after) ∙ ap (drop (length row)) (ap (drop n) standing ∙ drop_at numbers (drop n before) n few)
          ∙ drop-drop (length row) n before in
          record {
            count = rw (more, all, length-append numbers row) (omega arith);
            stands = a.stands ∙ rw (le-leb (n + length row) room fits, all, more, front, behind) refl;
            left = k;
            whole = omega (arith, more, mul-suc width k);
          }

-- ---- lines of a table

-- rows before what reading the lines after them comes to
abbrev with_rows : List (List ℤ) → Reading → Reading
with_rows done (stopped r) = stopped r
with_rows done (rows rs rest n) = rows (done ++ rs) rest n

with_none : (x : Reading) → with_rows [] x ≡ x
with_none (stopped r) = refl
with_none (rows rs rest n) = refl

with_more : (done : List (List ℤ)) (r : List ℤ) (x : Reading) → with_rows done (with_row r x) ≡ with_rows (done ++ (r ∷ [])) x
unfolding with_row
with_more done r (stopped f) = refl
with_more done r (rows rs rest n) = ap (λ (l : List (List ℤ)). rows l rest n) (sym (append_assoc done (r ∷ []) rs))

-- the check of a side or role does not depend on the rows before
judged_alone : (before : List (List ℤ)) (o : Option (List ℤ)) → judged check_side_or_role before o ≡ judged check_side_or_role [] o
unfolding judged check_side_or_role
judged_alone before none = refl
judged_alone before (some []) = refl
judged_alone before (some (k ∷ r)) = refl

with_line-same : (n : ℕ) (v : ValueLine) (f g : List ℤ → Reading) → ((r : List ℤ) → f r ≡ g r) → with_line n v f ≡ with_line n v g
unfolding with_line
with_line-same n (bad k) f g h = refl
with_line-same n (good r) f g h = ap (with_row r) (h r)

-- and so neither does the reading
values_alone : (last : Bool) (y : Layout) (n : ℕ) (before : List (List ℤ)) (ls : List Bytes)
    → read_values last check_side_or_role y n before ls ≡ read_values last check_side_or_role y n [] ls
unfolding read_values
values_alone last y n before [] = refl
values_alone last y n before (l ∷ ls) =
    go (is_nil l && not last) (λ b r. values_alone last y (suc n) (r ∷ b) ls)
  where
    go : (e : Bool) → ((b : List (List ℤ)) (r : List ℤ) → read_values last check_side_or_role y (suc n) (r ∷ b) ls ≡ read_values last check_side_or_role y (suc n) [] ls)
        → ◌≡◌ {A = Reading}
        (elim e [ true ↦ rows [] ls (suc n) | false ↦ with_line n (judged check_side_or_role before (row_of y l)) (λ r. read_values last check_side_or_role y (suc n) (r ∷ before) ls) ])
        (elim e [ true ↦ rows [] ls (suc n) | false ↦ with_line n (judged check_side_or_role [] (row_of y l)) (λ r. read_values last check_side_or_role y (suc n) (r ∷ []) ls) ])
    go true rec = refl
    go false rec =
        ap (λ (v : ValueLine). with_line n v (λ r. read_values last check_side_or_role y (suc n) (r ∷ before) ls)) (judged_alone before (row_of y l))
        ∙ with_line-same n (judged check_side_or_role [] (row_of y l)) (λ r. read_values last check_side_or_role y (suc n) (r ∷ before) ls)
        (λ r. read_values last check_side_or_role y (suc n) (r ∷ []) ls) (λ r. rec before r ∙ sym (rec [] r))

module _ (last : Bool) (y : Layout) (n : ℕ) (l : Bytes) (ls : List Bytes) where
  value_line : {b : Bool} → (is_nil l && not last) ≡ b → read_values last check_side_or_role y n [] (l ∷ ls)
      ≡ elim b [ true ↦ rows [] ls (suc n) | false ↦ with_line n (judged check_side_or_role [] (row_of y l)) (λ r. read_values last check_side_or_role y (suc n) (r ∷ []) ls) ]
  unfolding read_values
  value_line e =
      subst (λ (b : Bool). read_values last check_side_or_role y n [] (l ∷ ls)
      ≡ elim b [ true ↦ rows [] ls (suc n) | false ↦ with_line n (judged check_side_or_role [] (row_of y l)) (λ r. read_values last check_side_or_role y (suc n) (r ∷ []) ls) ]) e refl

  -- a line that is refused
  value-bad : {k : ℕ} → (is_nil l && not last) ≡ false → judged check_side_or_role [] (row_of y l) ≡ bad k → read_values last check_side_or_role y n [] (l ∷ ls) ≡ stop k n
  unfolding with_line
  value-bad e q = value_line e ∙ ap (λ (v : ValueLine). with_line n v (λ r. read_values last check_side_or_role y (suc n) (r ∷ []) ls)) q

  -- a line that is taken
  value_row : {r : List ℤ} → (is_nil l && not last) ≡ false → judged check_side_or_role [] (row_of y l) ≡ good r
      → read_values last check_side_or_role y n [] (l ∷ ls) ≡ with_row r (read_values last check_side_or_role y (suc n) [] ls)
  unfolding with_line
  value_row {r} e q =
      value_line e ∙ ap (λ (v : ValueLine). with_line n v (λ r. read_values last check_side_or_role y (suc n) (r ∷ []) ls)) q
      ∙ ap (with_row r) (values_alone last y (suc n) (r ∷ []) ls)

-- rows of the table from c₀ on are read, and the cursor c stands before the other lines
pub record RowsLeft (text : Bytes) (cs : Columns) (last : Bool) (room : ℕ) (first₀ second₀ : List ℤ) (c₀ : Cursor)
    (first second : List ℤ) (c : Cursor) (n m : ℕ) : Type 0 where
  pub done : List (List ℤ)
  pub same : read_values last check_side_or_role (layout_in cs) c₀.line [] (lines (drop c₀.at text))
      ≡ with_rows done (read_values last check_side_or_role (layout_in cs) c.line [] (lines (drop c.at text)))
  pub in_text : InText text c
  pub in_first : Held room (cs.count - 1) (rows_with (pos 0) done) first₀ first n
  pub in_second : Held room (cs.count - 1) (rows_with (pos 1) done) second₀ second m

-- none is read
pub rows_start : {text : Bytes} {c : Cursor} (cs : Columns) (last : Bool) {room : ℕ} (most : ℕ) (first second : List ℤ)
    → InText text c → room ≡ (cs.count - 1) * most → RowsLeft text cs last room first second c first second c 0 0
unfolding rows_with
rows_start {text} {c} cs last {room} most first second p e =
    record {
      done = [];
      same = sym (with_none (read_values last check_side_or_role (layout_in cs) c.line [] (lines (drop c.at text))));
      in_text = p;
      in_first = held_none room (cs.count - 1) most first e;
      in_second = held_none room (cs.count - 1) most second e;
    }

module _ {text : Bytes} {cs : Columns} {last : Bool} {room : ℕ} {first₀ second₀ : List ℤ} {c₀ : Cursor} {first second : List ℤ} {c : Cursor} {n m : ℕ}
    (l : RowsLeft text cs last room first₀ second₀ c₀ first second c n m) where
  -- what is read from c₀ on
  abbrev pub read_from : Reading
  read_from = read_values last check_side_or_role (layout_in cs) c₀.line [] (lines (drop c₀.at text))

  -- no line is left
  module _ (end : length text ≤ c.at) where
    -- another table is due: the file ends too soon
    pub rows_short : last ≡ false → read_from ≡ stopped (numbered 13 6 c.line)
    unfolding read_values stop
    rows_short e = l.same ∙ rw (lines_none text c.at end, e) refl

    -- the last table is read
    pub rows_all : last ≡ true → RowsRead read_from text room first₀ first second₀ second c n m
    unfolding read_values
    rows_all e =
        record {
          done = l.done;
          read = l.same ∙ rw (lines_none text c.at end, e, append-nil l.done) refl;
          in_text = l.in_text;
          first = held_stored l.in_first;
          second = held_stored l.in_second;
        }

  module _ (more : c.at < length text) where
    -- the table ends with an empty line
    pub rows-ended : (is_nil (first_line (drop c.at text)) && not last) ≡ true
        → RowsRead read_from text room first₀ first second₀ second (record { at = c.at + 1; line = c.line + 1 }) n m
    rows-ended e =
        let empty : is_nil (first_line (drop c.at text)) ≡ true = both_first (is_nil (first_line (drop c.at text))) e in
        record {
          done = l.done;
          read = l.same
              ∙ rw (
                lines_more text c.at more,
                value_line last (layout_in cs) c.line (first_line (drop c.at text)) (lines (later_lines (drop c.at text))) e,
                later_empty text c.at more empty,
                append-nil l.done,
                add-one c.line,
              );
          in_text = record { within = omega arith; low = omega (arith, l.in_text.low) };
          first = held_stored l.in_first;
          second = held_stored l.in_second;
        }
      where
        both_first : (b : Bool) → (b && not last) ≡ true → b ≡ true
        both_first true e = refl
        both_first false e = e

    module _ (goes : (is_nil (first_line (drop c.at text)) && not last) ≡ false) where
      -- a line that is refused
      pub rows-bad : {k : ℕ} → line_at text c cs ≡ bad k → read_from ≡ stopped (numbered k 6 c.line)
      unfolding stop
      rows-bad e =
          l.same
          ∙ rw (
            lines_more text c.at more,
            value-bad last (layout_in cs) c.line (first_line (drop c.at text)) (lines (later_lines (drop c.at text))) goes e,
          ) refl

      module _ {d : Cursor} (s : Stands text (later_lines (drop c.at text)) (suc c.line) d) where
        -- the next line starts behind this one
        pub rows_onward : c.at < d.at
        rows_onward = later_behind text c.at more s

        left_more : {r : List ℤ} → line_at text c cs ≡ good r
            → read_from ≡ with_rows (l.done ++ (r ∷ [])) (read_values last check_side_or_role (layout_in cs) d.line [] (lines (drop d.at text)))
        left_more {r} e =
            l.same
            ∙ rw (
              lines_more text c.at more,
              value_row last (layout_in cs) c.line (first_line (drop c.at text)) (lines (later_lines (drop c.at text))) goes e,
              s.line,
              s.before,
            ) (with_more l.done r _)

        left_in_text : InText text d
        left_in_text = record { within = s.within; low = omega (arith, l.in_text.low, s.line, rows_onward) }

        -- a row of side or role 0
        pub rows-first : {r next : List ℤ} {k : ℕ} → line_at text c cs ≡ good (pos 0 ∷ r)
            → length r ≡ cs.count - 1 → 2 ≤ cs.count → room ≤ length first₀ → Appended room r first next n k
            → RowsLeft text cs last room first₀ second₀ c₀ next second d k m
        rows-first {r} e long several space a =
            record {
              done = l.done ++ ((pos 0 ∷ r) ∷ []);
              same = left_more e;
              in_text = left_in_text;
              in_first = rw (rows_with-same (pos 0) (pos 0) r l.done refl) (held_more l.in_first space long (omega arith) a);
              in_second = rw (rows_with-other (pos 1) (pos 0) r l.done refl) l.in_second;
            }

        -- a row of side or role 1
        pub rows-second : {r next : List ℤ} {k : ℕ} → line_at text c cs ≡ good (pos 1 ∷ r)
            → length r ≡ cs.count - 1 → 2 ≤ cs.count → room ≤ length second₀ → Appended room r second next m k
            → RowsLeft text cs last room first₀ second₀ c₀ first next d n k
        rows-second {r} e long several space a =
            record {
              done = l.done ++ ((pos 1 ∷ r) ∷ []);
              same = left_more e;
              in_text = left_in_text;
              in_first = rw (rows_with-other (pos 0) (pos 1) r l.done refl) l.in_first;
              in_second = rw (rows_with-same (pos 1) (pos 1) r l.done refl) (held_more l.in_second space long (omega arith) a);
            }
