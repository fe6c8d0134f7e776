-- Value lines: the reader gives a row exactly where the line has a value for each field of the names line, and the row is these values
-- in the order of the table's names.
use mathlib.Core.Path.{◌≡◌, refl, sym, ap, subst, ◌∙◌}
use mathlib.Core.Bool.{Bool, true, false}
use mathlib.Core.Logic.{◌≢◌, ◌⊎◌, inl, inr, ⊎_elim, ◌↔◌}
use mathlib.Core.List.Memᴰ
use mathlib.Core.List.{List, [], ◌∷◌, map, map-map, nil≢cons}
use mathlib.Core.Option.{Option, none, some}
use Prim.Native.Nat.{◌<◌, ◌^◌}
use native.Mathlib.Omega.{arith}
use lib.IntN.{ℤ, pos, nat_abs}
use lib.ListN.{length, get_or, length-map, get_or-eq_default}
use Rattle.integers.proofs.Tests.{passed, failed, eq?}
use Rattle.lists.specs.Lists.{◌∈◌, Distinct, none as no_more, more}
use Rattle.lists.proofs.Membership.{map_in, map_out}
use Rattle.lists.proofs.Decisions.{Decides}
use Rattle.lists.proofs.Places.{map_same}
use Rattle.model.specs.Limits.{max_digits}
use Rattle.model.specs.Bytes.{Bytes, shown, spaced, same}
use Rattle.model.specs.MapFile.{Values, Table, all_names, GoodFields, RowWritten, RowsWritten, no_line, and_line}
use Rattle.model.specs.Reader.{fields_of, value_of, values_of, column_of, is_field, layout_of, arranged, row_of}
use Rattle.filerules.proofs.Options.{none-some, some_same, choice_in, choice_out, Both, cons_in, cons_out}
use Rattle.filerules.proofs.Numerals.{value-shown, shown-value}
use Rattle.filerules.proofs.Fields.{fields-spaced, spaced-fields}
use Rattle.filerules.proofs.Words.{same?, Word, Regular, shown_word, word_lacks_blank}
use Rattle.filerules.proofs.Names.{is_field?, column_first, column_later, column_absent, good-some}

-- ---- the values of fields

-- the value has at most 18 digits
abbrev Short : ℤ → Type 0
Short v = nat_abs v < 10 ^ max_digits

-- the values of fields that show them
values_in : (vs : List ℤ) → ((v : ℤ) → v ∈ vs → Short v) → values_of (map shown vs) ≡ some vs
unfolding values_of
values_in [] h = refl
values_in (v ∷ vs) h = cons_in (value-shown v (h v (Memᴰ.head refl))) (values_in vs (λ w m. h w (Memᴰ.tail m)))

-- fields that all have values show them
values_out : (fs : List Bytes) (vs : List ℤ) → values_of fs ≡ some vs → (fs ≡ map shown vs) × ((v : ℤ) → v ∈ vs → Short v)
unfolding values_of
values_out [] vs e = rw (← (some_same e)) (refl, λ v m. absurd (Memᴰ.not-nil m))
values_out (f ∷ fs) vs e = go (cons_out (value_of f) (values_of fs) vs e) (values_out fs)
  where
    go : Both (value_of f) (values_of fs) vs → ((ws : List ℤ) → values_of fs ≡ some ws → (fs ≡ map shown ws) × ((v : ℤ) → v ∈ ws → Short v))
        → (f ∷ fs ≡ map shown vs) × ((v : ℤ) → v ∈ vs → Short v)
    go b rec =
        let first = shown-value f b.first b.there in
        let later = rec b.others b.rest in
        rw b.joined
        (cc (first.0, later.0), λ v m. ⊎_elim (λ q. subst Short (sym q) first.1) (later.1 v) (Memᴰ.cases_cons m))

-- the value under a name, of values that stand under these fields; 0 where the name is no field
abbrev under : List Bytes → List ℤ → Bytes → ℤ
under fs vs n = get_or vs (column_of n fs) (pos 0)

under_absent : (fs : List Bytes) (vs : List ℤ) (n : Bytes) → (n ∈ fs → ⊥) → length vs ≡ length fs → under fs vs n ≡ pos 0
under_absent fs vs n h e = rw (column_absent n fs h) (get_or-eq_default vs (pos 0) (omega arith))

-- the values under all fields, where no field stands twice, are the values
under_all : {fs : List Bytes} (vs : List ℤ) → Distinct fs → length vs ≡ length fs → map (under fs vs) fs ≡ vs
under_all [] no_more e = refl
under_all (v ∷ vs) no_more e = absurd (omega arith)
under_all [] (more new d) e = absurd (omega arith)
under_all (v ∷ vs) (more {x = f} {l = fs} new d) e =
    let here : under (f ∷ fs) (v ∷ vs) f ≡ v = rw (column_first f f fs refl) refl in
    let later = map_same (under (f ∷ fs) (v ∷ vs)) (under fs vs) fs (λ n m. rw (column_later n f fs (λ q. new (Memᴰ.cast (sym q) m))) refl) in
    cc (here, later, under_all vs d (omega arith))

-- the values that a row has under all fields stand under each
under_shown : (value : Bytes → ℤ) (fs : List Bytes) (n : Bytes) → n ∈ fs → under fs (map value fs) n ≡ value n
under_shown value [] n m = absurd (Memᴰ.not-nil m)
under_shown value (f ∷ fs) n m = go (same n f) (same? n f) (Memᴰ.cases_cons m) (under_shown value fs n)
  where
    go : (b : Bool) → Decides (n ≡ f) b → (n ≡ f) ⊎ (n ∈ fs) → (n ∈ fs → under fs (map value fs) n ≡ value n)
        → under (f ∷ fs) (map value (f ∷ fs)) n ≡ value n
    go true (passed q) k rec = rw (column_first n f fs q) (ap value (sym q))
    go false (failed q) (inl k) rec = absurd (q k)
    go false (failed q) (inr k) rec = rw (column_later n f fs q) (rec k)

-- ---- a line of shown values

-- a byte that no shown value has is in no field of such a line
pub shown-all : (value : Bytes → ℤ) (fields : List Bytes) (f : Bytes) → f ∈ map (λ n. shown (value n)) fields → Word f
shown-all value fields f m =
    let w = map_out (λ (n : Bytes). shown (value n)) fields m in
    subst Word (sym w.2) (shown_word (value w.0))

-- the fields of such a line are the shown values
pub shown-fields : (value : Bytes → ℤ) (fields : List Bytes) → fields ≢ []
    → fields_of (spaced (map (λ n. shown (value n)) fields)) ≡ map (λ n. shown (value n)) fields
shown-fields value fields n =
    fields-spaced (map (λ f. shown (value f)) fields) (λ e. n (map_nil fields e)) (λ f m. word_lacks_blank (shown-all value fields f m))
  where
    map_nil : (l : List Bytes) → map (λ f. shown (value f)) l ≡ [] → l ≡ []
    map_nil [] e = refl
    map_nil (x ∷ l) e = absurd (nil≢cons (sym e))

-- ---- rows

-- the numbers of rows, in the order of the names
abbrev pub numbers_in : List Bytes → List Values → List (List ℤ)
numbers_in names values = map (λ value. map value names) values

module _ {t : Table} (regular : Regular t) {fields : List Bytes} (named : GoodFields t fields) where
  -- the row of values that stand under the fields
  row-arranged : (vs : List ℤ) → length vs ≡ length fields → arranged (layout_of t fields) (some vs) ≡ some (map (under fields vs) (all_names t))
  unfolding arranged layout_of
  row-arranged vs e =
      choice_in none (eq? (length vs) (length fields)) e
      ∙ ap some (map-map (λ c. get_or vs c (pos 0)) (λ n. column_of n fields) (all_names t))

  -- a line that writes a row gives its values under the table's names
  pub row_in : {line : Bytes} {value : Values} → RowWritten t fields line value → row_of (layout_of t fields) line ≡ some (map value (all_names t))
  unfolding row_of
  row_in {line} {value} w =
      let vs = map value fields in
      let parts : fields_of line ≡ map shown vs =
      ap fields_of w.writes ∙ shown-fields value fields (good-some regular named) ∙ sym (map-map shown value fields)
      in
      let short : (x : ℤ) → x ∈ vs → Short x = λ x m. let v = map_out value fields m in subst Short (sym v.2) (w.good.short v.0 v.1) in
      let read : values_of (fields_of line) ≡ some vs = ap values_of parts ∙ values_in vs short in
      rw read (row-arranged vs (length-map fields value) ∙ ap some (map_same (under fields vs) value (all_names t) each))
    where
      each : (n : Bytes) → n ∈ all_names t → under fields (map value fields) n ≡ value n
      each n m = go (is_field fields n) (is_field? fields n)
        where
          go : (b : Bool) → Decides (n ∈ fields) b → under fields (map value fields) n ≡ value n
          go true (passed k) = under_shown value fields n k
          go false (failed k) =
              under_absent fields (map value fields) n k (length-map fields value)
              ∙ sym (⊎_elim (λ j. absurd (k (named.each n j))) (λ j. w.good.absent n j k) (Memᴰ.append_cases t.names m))

  -- a line that gives a row writes it: the row is its values under the table's names
  pub row_out : (line : Bytes) (row : List ℤ) → row_of (layout_of t fields) line ≡ some row
      → (value : Values) × RowWritten t fields line value × (row ≡ map value (all_names t))
  unfolding row_of arranged layout_of
  row_out line row e = go (values_of (fields_of line)) refl e
    where
      go : (o : Option (List ℤ)) → values_of (fields_of line) ≡ o → arranged (layout_of t fields) o ≡ some row
          → (value : Values) × RowWritten t fields line value × (row ≡ map value (all_names t))
      go none q e = absurd (none-some e)
      go (some vs) q e =
          let many = (choice_out (eq? (length vs) (length fields)) e).0 in
          let each = values_out (fields_of line) vs q in
          let value = under fields vs in
          let same-values : map value fields ≡ vs = under_all vs named.once many in
          let shows : fields_of line ≡ map (λ n. shown (value n)) fields = each.0 ∙ ap (map shown) (sym same-values) ∙ map-map shown value fields in
          let among : (n : Bytes) → n ∈ fields → value n ∈ vs = λ n m. subst (λ (z : List ℤ). value n ∈ z) same-values (map_in value m) in
          let writes : line ≡ spaced (map (λ n. shown (value n)) fields) = sym (spaced-fields line) ∙ ap spaced shows in (
            value,
            record { good = record { short = λ n m. each.1 (value n) (among n m); absent = λ n m k. under_absent fields vs n k many }; writes = writes },
            some_same (sym e ∙ row-arranged vs many),
          )

  -- the reader gives a row exactly where the line writes it
  pub row-exact : (line : Bytes) (row : List ℤ)
      → (row_of (layout_of t fields) line ≡ some row) ↔ ((value : Values) × RowWritten t fields line value × (row ≡ map value (all_names t)))
  row-exact line row = (row_out line row, λ w. row_in w.1 ∙ ap some (sym w.2))

  -- the rows that lines write have one list of numbers
  pub rows-once : {ls : List Bytes} {vs ws : List Values} → RowsWritten t fields ls vs → RowsWritten t fields ls ws
      → numbers_in (all_names t) vs ≡ numbers_in (all_names t) ws
  rows-once no_line no_line = refl
  rows-once (and_line v vs) (and_line w ws) =
      let here = some_same (sym (row_in v) ∙ row_in w) in
      let later = rows-once vs ws in
      cc
