-- The row of a value line: its values in the order of the table's names, and its numbers behind those of a table.
use mathlib.Core.Path.{◌≡◌, refl, sym, ap, ◌∙◌}
use mathlib.Core.Bool.{Bool, true, false, cond}
use mathlib.Core.Logic.{◌≢◌}
use mathlib.Core.List.{List, [], ◌∷◌, map}
use mathlib.Core.Option.{Option, none, some}
use Prim.Native.Nat.{ℕ, suc, ◌+◌, ◌-◌, ◌≤◌, ◌<◌}
use native.Mathlib.Numerals.{add-one}
use native.Mathlib.Omega.{arith}
use borrow.Author.Tests.{eq-eqb, le-leb, lt-leb}
use lib.Dec.{ltb, eqb}
use lib.IntN.{ℤ, pos}
use lib.ListN.{length, take, drop, set, get_or, length-map, length-take, length-drop, get_or-eq_default}
use lib.Seq.{drop-cons, get_or-take, get_or-drop, length-take-le, take-length, paste, paste-suc}
use Rattle.integers.specs.Integers.{eq_z}
use Rattle.integers.proofs.Tests.{Test, passed, failed, ltb?, is_false, eq_z→eq}
use Rattle.lists.proofs.Places.{map_at}
use Rattle.model.specs.Bytes.{Bytes}
use Rattle.model.specs.Reader.{Layout, fields_of, values_of, arranged, row_of, check_side_or_role, bad, good, judged}
use Rattle.filerules.proofs.RowChecks.{judged-none, judged-good, judged-bad}
use Rattle.cursor.specs.Parts.{first_line, exactly, line_values}
use Rattle.columns.specs.declared.Columns.{Columns}
use Rattle.columns.specs.Given.{column_list, layout_in, GoodColumns}
use Rattle.sides.specs.declared.Side.{Side}
use Rattle.sides.specs.declared.Side.TheVariants.{First, Second}
use Rattle.sides.specs.Given.{row_room, Clear, numbers_at, row_numbers, side_number, Appended}

-- ---- the values at the columns

-- columns up to n, behind n values of which the row has 0, find nothing else in these n values
numbers_take : (n : ℕ) (cs : List ℕ) (row : List ℤ) → get_or row n (pos 0) ≡ pos 0 → ((j : ℕ) → j < length cs → get_or cs j 0 ≤ n)
    → numbers_at cs (take n row) ≡ numbers_at cs row
numbers_take n [] row e h = refl
numbers_take n (c ∷ cs) row e h = cc (go (ltb c n) (ltb? c n), numbers_take n cs row e (λ j k. h (suc j) (omega arith)))
  where
    go : (b : Bool) → Test (c < n) (n ≤ c) b → get_or (take n row) c (pos 0) ≡ get_or row c (pos 0)
    go true (passed k) = get_or-take n row c (pos 0) k
    go false (failed k) =
        let last : c ≡ n = omega (arith, h 0 (omega arith)) in
        get_or-eq_default (take n row) (pos 0) (omega (arith, length-take n row)) ∙ sym (rw last e)

-- only as many values as the names line has fields make a row
arranged-exactly : (y : Layout) (o : Option (List ℤ)) → arranged y (exactly y.fields o) ≡ arranged y o
unfolding arranged exactly
arranged-exactly y none = refl
arranged-exactly y (some vs) = go (eqb (length vs) y.fields) refl
  where
    go : (b : Bool) → eqb (length vs) y.fields ≡ b
        → arranged y (cond b (some vs) none) ≡ cond b (some (map (λ c. get_or vs c (pos 0)) y.at)) none
    go true e = rw e refl
    go false e = refl

-- ---- the row of a line

-- side or role that is neither 0 nor 1
keyless_check : (k : ℤ) (r : List ℤ) → k ≢ pos 0 → k ≢ pos 1 → check_side_or_role [] (k ∷ r) ≡ some 14
unfolding check_side_or_role
keyless_check k r p q = rw (is_false (eq_z k (pos 0)) (λ t. p (eq_z→eq k (pos 0) t)), is_false (eq_z k (pos 1)) (λ t. q (eq_z→eq k (pos 1) t))) refl

-- side or role of a row
abbrev pub row_key : Columns → List ℤ → ℤ
row_key cs row = get_or row (get_or cs.at 0 0) (pos 0)

-- the place behind the values of a line stays 0 where what lies behind them stays
pub clear_kept : (cs : Columns) (before row : List ℤ) → Clear cs before → drop cs.fields row ≡ drop cs.fields before → Clear cs row
clear_kept cs before row clear e = sym (first row) ∙ ap (λ (l : List ℤ). get_or l 0 (pos 0)) e ∙ first before ∙ clear
  where
    first : (l : List ℤ) → get_or (drop cs.fields l) 0 (pos 0) ≡ get_or l cs.fields (pos 0)
    first l = get_or-drop cs.fields l 0 (pos 0) ∙ ap (λ (k : ℕ). get_or l k (pos 0)) (omega arith)

module _ {cs : Columns} (g : GoodColumns cs) (t : Bytes) where
  row-values : row_of (layout_in cs) (first_line t) ≡ arranged (layout_in cs) (line_values cs.fields t)
  unfolding row_of
  row-values = sym (arranged-exactly (layout_in cs) (values_of (fields_of (first_line t))))

  -- a line that breaks the rules of values
  pub row-broken : line_values cs.fields t ≡ none → row_of (layout_in cs) (first_line t) ≡ none
  unfolding arranged
  row-broken e = row-values ∙ rw e refl

  -- and so is refused
  pub line-broken : line_values cs.fields t ≡ none → judged check_side_or_role [] (row_of (layout_in cs) (first_line t)) ≡ bad 14
  line-broken e = judged-none check_side_or_role [] (row-broken e)

  module _ (row : List ℤ) (room : row_room ≤ length row) (clear : Clear cs row) where
    numbers_key : numbers_at (column_list cs) row ≡ row_key cs row ∷ row_numbers cs row
    numbers_key =
        let first : column_list cs ≡ get_or (column_list cs) 0 0 ∷ drop 1 (column_list cs) = drop-cons (column_list cs) 0 0 (omega (arith, g.whole, g.several)) in
        ap (λ (l : List ℕ). numbers_at l row) first
        ∙ rw (get_or-take cs.count cs.at 0 0 (omega (arith, g.several))) refl

    module _ (values : line_values cs.fields t ≡ some (take cs.fields row)) where
      -- the row is the numbers at the columns
      pub row-numbers : row_of (layout_in cs) (first_line t) ≡ some (numbers_at (column_list cs) row)
      unfolding arranged
      row-numbers =
          let many : length (take cs.fields row) ≡ cs.fields = length-take-le cs.fields row (omega (arith, g.few_fields)) in
          let most : (j : ℕ) → j < length (column_list cs) → get_or (column_list cs) j 0 ≤ cs.fields =
          λ j h. let k : j < cs.count = omega (arith, g.whole) in rw (get_or-take cs.count cs.at j 0 k) (g.within j k) in
          row-values ∙ rw (values, eq-eqb (length (take cs.fields row)) cs.fields many)
          (ap some (numbers_take cs.fields (column_list cs) row clear most))

      row_given : row_of (layout_in cs) (first_line t) ≡ some (row_key cs row ∷ row_numbers cs row)
      row_given = row-numbers ∙ ap some numbers_key

      -- side or role 0 or 1
      pub row_sided : (side : Side) → row_key cs row ≡ side_number side → judged check_side_or_role [] (row_of (layout_in cs) (first_line t)) ≡ good (side_number side ∷ row_numbers cs row)
      unfolding check_side_or_role
      row_sided First e = judged-good check_side_or_role [] (row_given ∙ rw e refl) refl
      row_sided Second e = judged-good check_side_or_role [] (row_given ∙ rw e refl) refl

      -- another
      pub row_keyless : row_key cs row ≢ pos 0 → row_key cs row ≢ pos 1 → judged check_side_or_role [] (row_of (layout_in cs) (first_line t)) ≡ bad 14
      row_keyless p q = judged-bad check_side_or_role [] row_given (keyless_check (row_key cs row) (row_numbers cs row) p q)

-- ---- the numbers of a row, appended

module _ {cs : Columns} (g : GoodColumns cs) (row : List ℤ) where
  -- a row has one number fewer than the table has names
  pub numbers_length : length (row_numbers cs row) ≡ cs.count - 1
  numbers_length = length-map (drop 1 (column_list cs)) _ ∙ length-drop 1 (column_list cs) ∙ ap (λ (k : ℕ). k - 1) g.whole

  -- each stands at its column
  pub number_at : (j : ℕ) → j < cs.count - 1 → get_or (row_numbers cs row) j (pos 0) ≡ get_or row (get_or cs.at (j + 1) 0) (pos 0)
  number_at j h =
      let here : get_or (drop 1 (column_list cs)) j 0 ≡ get_or cs.at (j + 1) 0 =
      get_or-drop 1 (column_list cs) j 0 ∙ get_or-take cs.count cs.at (1 + j) 0 (omega arith) ∙ ap (λ (k : ℕ). get_or cs.at k 0) (omega arith) in
      map_at (λ c. get_or row c (pos 0)) (drop 1 (column_list cs)) j (pos 0) 0 (omega (arith, length-drop 1 (column_list cs), g.whole))
      ∙ ap (λ (c : ℕ). get_or row c (pos 0)) here

module _ (room n : ℕ) (numbers table : List ℤ) where
  -- the room does not last for them
  pub append_none : room < n + length numbers → Appended room numbers table table n n
  append_none h = record { count = rw (lt-leb (n + length numbers) room h) refl; stands = rw (lt-leb (n + length numbers) room h) refl }

  -- all are stored
  pub append_all : n + length numbers ≤ room → Appended room numbers table (paste table n numbers (length numbers)) n (n + length numbers)
  append_all h =
      record {
        count = rw (le-leb (n + length numbers) room h) refl;
        stands = rw (le-leb (n + length numbers) room h, take-length numbers) refl;
      }

-- one number more is stored
pub append_next : (table numbers : List ℤ) (n j : ℕ) {v : ℤ} → n + j < length table → j < length numbers → get_or numbers j (pos 0) ≡ v
    → set (paste table n numbers j) (n + j) v ≡ paste table n numbers (j + 1)
append_next table numbers n j h k e = rw (← e, add-one j) (paste-suc table n numbers j (pos 0) h k)
