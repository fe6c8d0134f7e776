-- One table of the file: the reader takes exactly the lines that write a table by the file rules, and its rows are the values that they write.
use mathlib.Core.Path.{◌≡◌, refl, sym, ap, subst, ◌∙◌}
use mathlib.Core.Bool.{Bool, true, false}
use mathlib.Core.Logic.{◌⊎◌, inl, inr, ⊎_elim}
use mathlib.Core.List.Memᴰ
use mathlib.Core.List.{List, [], ◌∷◌, ◌++◌, map, flat_map}
use mathlib.Core.Option.{Option, none, some}
use Prim.Native.Nat.{ℕ, suc, ◌≤◌}
use native.Mathlib.Omega.{arith}
use lib.IntN.{ℤ}
use lib.ListN.{length}
use Rattle.lists.specs.Lists.{◌∈◌, is_nil}
use Rattle.lists.proofs.Membership.{map_out}
use Rattle.model.specs.Limits.{max_text}
use Rattle.model.specs.Bytes.{Bytes, line_feed, blank, shown, spaced}
use Rattle.model.specs.MapFile.{Values, Table, all_names, GoodFields, GoodRow, RowWritten, NamesLine, lines, Allowed, BrokenOff}
use Rattle.model.specs.FileRules.{row_line, table_lines, MeetsNone, AllMeetNone, TableOf}
use Rattle.model.specs.Refusals.{Refusal}
use Rattle.model.specs.Reader.{Layout, fields_of, value_of, values_of, cons_option, layout_of, arranged, columns, row_of, RowCheck, ValueLine, bad, good, judged, Reading, stopped, rows, with_row, stop, with_line, read_values, read_table, check_text}
use Rattle.filerules.proofs.Options.{none-some}
use Rattle.filerules.proofs.Splits.{Lacks}
use Rattle.filerules.proofs.Fields.{spaced_out}
use Rattle.filerules.proofs.Lines.{ended, ended_cons, lines-ended, ended-whole, ended_out}
use Rattle.filerules.proofs.Text.{text_passes}
use Rattle.filerules.proofs.Words.{Plain, Word, plain_apart, plain_allowed, Regular}
use Rattle.filerules.proofs.Names.{good-names, names-read, names-columns}
use Rattle.filerules.proofs.Values.{shown-all, numbers_in, row_in, row_out}
use Rattle.filerules.proofs.RowChecks.{CheckOf, judged-good, last_step, check-none}

-- ---- the lines that write a table

-- the line of a row, without its line feed
unfoldable pub written : List Bytes → Values → Bytes
written fields value = spaced (map (λ n. shown (value n)) fields)

-- the lines of a table, without their line feeds
unfoldable pub lines_of : List Bytes → List Values → List Bytes
lines_of fields values = spaced fields ∷ map (written fields) values

rows-ended : (fields : List Bytes) (values : List Values) → flat_map (row_line fields) values ≡ ended (map (written fields) values)
unfolding flat_map ended row_line written
rows-ended fields [] = refl
rows-ended fields (value ∷ values) = ap (λ (r : Bytes). row_line fields value ++ r) (rows-ended fields values)

-- the text of a table is that of its lines
pub table-ended : (fields : List Bytes) (values : List Values) → table_lines fields values ≡ ended (lines_of fields values)
unfolding table_lines lines_of
table-ended fields values =
    ap (λ (r : Bytes). spaced fields ++ line_feed ∷ r) (rows-ended fields values) ∙ sym (ended_cons (spaced fields) (map (written fields) values))

-- ---- their bytes

-- every byte of the line is a space or in a word
abbrev pub Clean : Bytes → Type 0
Clean l = (c : ℕ) → c ∈ l → (c ≡ blank) ⊎ Plain c

-- such a line has no line feed
pub clean_lacks_feed : {l : Bytes} → Clean l → Lacks line_feed l
clean_lacks_feed h m = ⊎_elim (λ e. omega arith) (λ p. (plain_apart line_feed p).1 refl) (h line_feed m)

-- its bytes are allowed
pub clean_allowed : {l : Bytes} → Clean l → (c : ℕ) → c ∈ l → Allowed c
clean_allowed h c m = ⊎_elim (λ e. inr (inr (inr (inl e)))) plain_allowed (h c m)

-- a text of such lines, each with its line feed
module _ {text : Bytes} {ls : List Bytes} (is : text ≡ ended ls) (clean : (l : Bytes) → l ∈ ls → Clean l) where
  -- has these lines
  pub clean_lines : lines text ≡ ls
  clean_lines = ap lines is ∙ lines-ended ls (λ l m. clean_lacks_feed (clean l m))

  -- and passes the check of the whole text, if it is not too long
  pub clean_passes : length text ≤ max_text → check_text text ≡ none
  clean_passes short = text_passes text short allowed (λ b. ended-whole ls (subst BrokenOff is b))
    where
      allowed : (c : ℕ) → c ∈ text → Allowed c
      allowed c m =
          ⊎_elim (λ e. inr (inr (inr (inr e)))) (λ w. clean_allowed (clean w.0 w.1) c w.2)
          (ended_out c ls (subst (λ (z : Bytes). c ∈ z) is m))

spaced_clean : (fs : List Bytes) → ((f : Bytes) → f ∈ fs → Word f) → Clean (spaced fs)
spaced_clean fs h c m = ⊎_elim inl (λ w. inr (h w.0 w.1 c w.2)) (spaced_out c fs m)

-- the lines of a table have no other bytes
pub table_clean : {t : Table} → Regular t → (w : TableOf t) (l : Bytes) → l ∈ lines_of w.fields w.rows → Clean l
unfolding lines_of written
table_clean regular w l m = ⊎_elim names_line row (Memᴰ.cases_cons m)
  where
    names_line : l ≡ spaced w.fields → Clean l
    names_line e = rw e (spaced_clean w.fields (λ f k. regular.words f (good-names regular w.named f k)))

    row : l ∈ map (written w.fields) w.rows → Clean l
    row k = let v = map_out (written w.fields) w.rows k in rw v.2 (spaced_clean (map (λ n. shown (v.0 n)) w.fields) (shown-all v.0 w.fields))

-- ---- reading them

-- what follows the lines of a table, and what of it is left to read: nothing after the last table, else an empty line and the rest
pub data Ends : Bool → List Bytes → List Bytes → Type 0 where
  final : Ends true [] []
  between : {rest : List Bytes} → Ends false ([] ∷ rest) rest

pub ends_between : {tail rest : List Bytes} → Ends false tail rest → tail ≡ [] ∷ rest
ends_between between = refl

pub ends_final : {tail rest : List Bytes} → Ends true tail rest → tail ≡ []
ends_final final = refl

-- the empty line gives no row
empty-row : (y : Layout) → row_of y [] ≡ none
unfolding row_of arranged fields_of values_of value_of cons_option
empty-row y = refl

-- a line that gives a row is not empty, and so no table ends with it
row_step : (last : Bool) (check : RowCheck) (y : Layout) (n : ℕ) (before : List (List ℤ)) (l : Bytes) (ls : List Bytes) (row : List ℤ) → row_of y l ≡ some row
    → check before row ≡ none → read_values last check y n before (l ∷ ls) ≡ with_row row (read_values last check y (suc n) (row ∷ before) ls)
unfolding read_values is_nil with_line
row_step last check y n before [] ls row e q = absurd (none-some (sym (empty-row y) ∙ e))
row_step last check y n before (c ∷ l) ls row e q =
    ap (λ (v : ValueLine). with_line n v (λ r. read_values last check y (suc n) (r ∷ before) ls)) (judged-good check before e q)

-- lines that were read as these rows, after rows with these numbers, up to the rest: they are written by the file rules
record RowsRead (t : Table) (fields : List Bytes) (last : Bool) (before : List Values) (ls : List Bytes) (rs : List (List ℤ)) (rest : List Bytes) : Type 0 where
  values : List Values
  good : (value : Values) → value ∈ values → GoodRow t fields value
  meets_none : AllMeetNone t.conditions before values
  numbers : rs ≡ numbers_in (all_names t) values
  tail : List Bytes
  ends : Ends last tail rest
  writes : ls ≡ map (written fields) values ++ tail

-- no row, where what ends the table comes at once
no_rows : {t : Table} {fields : List Bytes} {last : Bool} {before : List Values} {tail : List Bytes} {rs : List (List ℤ)} {rest : List Bytes} → [] ≡ rs
    → Ends last tail rest → RowsRead t fields last before tail rs rest
unfolding AllMeetNone
no_rows {tail} e ends =
    record { values = []; good = λ x k. absurd (Memᴰ.not-nil k); meets_none = tt; numbers = sym e; tail = tail; ends = ends; writes = refl }

-- a reading that stopped has no rows
pub stopped-rows : {r : Refusal} {rs : List (List ℤ)} {ls : List Bytes} {n : ℕ} → stopped r ≡ rows rs ls n → ⊥
stopped-rows e = let z : ◌≡◌ {A = ℕ} 0 1 = cc in omega arith

-- the rows of a reading are one thing, and so are the lines that are left
pub rows_same : {rs qs : List (List ℤ)} {ls ks : List Bytes} {n m : ℕ} → rows rs ls n ≡ rows qs ks m → (rs ≡ qs) × (ls ≡ ks)
rows_same e = (cc, cc)

-- a reading with one row more
with_out : (row : List ℤ) (reading : Reading) (rs : List (List ℤ)) (rest : List Bytes) (m : ℕ) → with_row row reading ≡ rows rs rest m
    → (qs : List (List ℤ)) × (reading ≡ rows qs rest m) × (rs ≡ row ∷ qs)
unfolding with_row
with_out row (stopped r) rs rest m e = absurd (stopped-rows e)
with_out row (rows qs ls n) rs rest m e = (qs, cc, sym (rows_same e).0)

module _ {t : Table} (regular : Regular t) (check : RowCheck) (checks : CheckOf (all_names t) t.conditions check) {fields : List Bytes} (named : GoodFields t fields) where
  -- the columns of the fields
  abbrev layout : Layout
  layout = layout_of t fields

  -- the line of a good row gives its values
  good-read : (value : Values) → GoodRow t fields value → row_of layout (written fields value) ≡ some (map value (all_names t))
  unfolding written
  good-read value g = row_in regular named (record { good = g; writes = refl })

  -- the value lines of a table by the file rules are read as its rows
  values-read : {last : Bool} {tail rest : List Bytes} → Ends last tail rest → (n : ℕ) (before values : List Values)
      → ((value : Values) → value ∈ values → GoodRow t fields value) → AllMeetNone t.conditions before values
      → (m : ℕ) × (read_values last check layout n (numbers_in (all_names t) before) (map (written fields) values ++ tail) ≡ rows (numbers_in (all_names t) values) rest m)
  unfolding read_values is_nil with_row AllMeetNone
  values-read final n before [] h u = (n, refl)
  values-read between n before [] h u = (suc n, refl)
  values-read {last} {tail} e n before (value ∷ values) h u =
      let w = values-read e (suc n) (value ∷ before) values (λ v m. h v (Memᴰ.tail m)) u.1 in
      let row = good-read value (h value (Memᴰ.head refl)) in
      let free = (check-none (all_names t) t.conditions check checks before value).1 u.0 in
      let here = row_step last check layout n (numbers_in (all_names t) before) (written fields value) (map (written fields) values ++ tail) (map value (all_names t)) row free in
      (w.0, here ∙ ap (with_row (map value (all_names t))) w.1)

  -- one value line, and those after it
  row_read : (last : Bool) (n m : ℕ) (before : List Values) (l : Bytes) (ls : List Bytes) (later : List ℤ → Reading) (rs : List (List ℤ)) (rest : List Bytes)
      → with_line n (judged check (numbers_in (all_names t) before) (row_of layout l)) later ≡ rows rs rest m
      → ((value : Values) (qs : List (List ℤ)) → later (map value (all_names t)) ≡ rows qs rest m → RowsRead t fields last (value ∷ before) ls qs rest)
      → RowsRead t fields last before (l ∷ ls) rs rest
  unfolding written stop judged with_line AllMeetNone
  row_read last n m before l ls later rs rest e rec = go (row_of layout l) refl e
    where
      bs : List (List ℤ)
      bs = numbers_in (all_names t) before

      make : (value : Values) → RowWritten t fields l value → MeetsNone t.conditions before value → (qs : List (List ℤ)) → later (map value (all_names t)) ≡ rows qs rest m
          → rs ≡ map value (all_names t) ∷ qs → RowsRead t fields last before (l ∷ ls) rs rest
      make value v free qs q p =
          let r = rec value qs q in
          record {
            values = value ∷ r.values;
            good = λ x k. ⊎_elim (λ i. subst (GoodRow t fields) (sym i) v.good) (r.good x) (Memᴰ.cases_cons k);
            meets_none = (free, r.meets_none);
            numbers = cc (p, r.numbers);
            tail = r.tail;
            ends = r.ends;
            writes = cc (v.writes, r.writes);
          }

      taken : (value : Values) → RowWritten t fields l value → (o : Option ℕ) → check bs (map value (all_names t)) ≡ o
          → with_line n (elim o [ none ↦ good (map value (all_names t)) | some number ↦ bad number ]) later ≡ rows rs rest m → RowsRead t fields last before (l ∷ ls) rs rest
      taken value v none q e =
          let w = with_out (map value (all_names t)) (later (map value (all_names t))) rs rest m e in
          make value v ((check-none (all_names t) t.conditions check checks before value).0 q) w.0 w.1 w.2
      taken value v (some number) q e = absurd (stopped-rows e)

      go : (o : Option (List ℤ)) → row_of layout l ≡ o → with_line n (judged check bs o) later ≡ rows rs rest m → RowsRead t fields last before (l ∷ ls) rs rest
      go none q e = absurd (stopped-rows e)
      go (some row) q e = let v = row_out regular named l row q in taken v.0 v.1 (check bs (map v.0 (all_names t))) refl (rw v.2 at e)

  -- value lines that are read are written by the file rules
  read-values : (last : Bool) (n m : ℕ) (before : List Values) (ls : List Bytes) (rs : List (List ℤ)) (rest : List Bytes)
      → read_values last check layout n (numbers_in (all_names t) before) ls ≡ rows rs rest m → RowsRead t fields last before ls rs rest
  unfolding read_values is_nil stop
  read-values true n m before [] rs rest e =
      let w = rows_same e in
      no_rows w.0 (subst (Ends true []) w.1 final)
  read-values false n m before [] rs rest e = absurd (stopped-rows e)
  read-values true n m before (l ∷ ls) rs rest e =
      let bs = numbers_in (all_names t) before in
      row_read true n m before l ls (λ r. read_values true check layout (suc n) (r ∷ bs) ls) rs rest (sym (last_step check layout n bs l ls) ∙ e)
      (λ value qs q. read-values true (suc n) m (value ∷ before) ls qs rest q)
  read-values false n m before ([] ∷ ls) rs rest e =
      let w = rows_same e in
      no_rows w.0 (subst (Ends false ([] ∷ ls)) w.1 between)
  read-values false n m before ((c ∷ l) ∷ ls) rs rest e =
      let bs = numbers_in (all_names t) before in
      row_read false n m before (c ∷ l) ls (λ r. read_values false check layout (suc n) (r ∷ bs) ls) rs rest e
      (λ value qs q. read-values false (suc n) m (value ∷ before) ls qs rest q)

-- ---- a whole table

-- a table by the file rules is read as its rows
pub table-read : {t : Table} → Regular t → (check : RowCheck) → CheckOf (all_names t) t.conditions check → (w : TableOf t) {last : Bool} {tail rest : List Bytes}
    → Ends last tail rest → (n : ℕ)
    → (m : ℕ) × (read_table last check t n (lines_of w.fields w.rows ++ tail) ≡ rows (numbers_in (all_names t) w.rows) rest m)
unfolding read_table lines_of
table-read {t} regular check checks w {last} {tail} {rest} e n =
    let fs = w.fields in
    let line : NamesLine t fs (spaced fs) = record { writes = refl; named = w.named } in
    let v = values-read regular check checks w.named e (suc n) [] w.rows w.good w.meets_none in
    (v.0, ap (λ o. elim o [ none ↦ stop 13 n | some y ↦ read_values last check y (suc n) [] (map (written fs) w.rows ++ tail) ]) (names-columns regular line) ∙ v.1)

-- lines that were read as these rows, up to the rest: they write a table by the file rules
pub record TableRead (t : Table) (last : Bool) (ls : List Bytes) (rs : List (List ℤ)) (rest : List Bytes) : Type 0 where
  pub table : TableOf t
  pub numbers : rs ≡ numbers_in (all_names t) table.rows
  pub tail : List Bytes
  pub ends : Ends last tail rest
  pub writes : ls ≡ lines_of table.fields table.rows ++ tail

-- a table that is read is written by the file rules
pub read_table_lem : {t : Table} → Regular t → (check : RowCheck) → CheckOf (all_names t) t.conditions check → (last : Bool) (n m : ℕ) (ls : List Bytes) (rs : List (List ℤ))
    (rest : List Bytes) → read_table last check t n ls ≡ rows rs rest m → TableRead t last ls rs rest
unfolding read_table lines_of stop
read_table_lem regular check checks last n m [] rs rest e = absurd (stopped-rows e)
read_table_lem {t} regular check checks last n m (l ∷ ls) rs rest e = go (columns t l) refl e
  where
    go : (o : Option Layout) → columns t l ≡ o → elim o [ none ↦ stop 13 n | some y ↦ read_values last check y (suc n) [] ls ] ≡ rows rs rest m
        → TableRead t last (l ∷ ls) rs rest
    go none q e = absurd (stopped-rows e)
    go (some y) q e =
        let w = names-read regular l y q in
        let r = read-values regular check checks w.0.named last (suc n) m [] ls rs rest (rw w.1 at e) in
        record {
          table = record { fields = fields_of l; named = w.0.named; rows = r.values; good = r.good; meets_none = r.meets_none };
          numbers = r.numbers;
          tail = r.tail;
          ends = r.ends;
          writes = cc (w.0.writes, r.writes);
        }
