-- The columns of a table's names: found one after the other, and each of them that of a field or behind the last.
use Rattle.std.specs.Prelude as std
use Rattle.std.specs.Borrow.{Bor}
use mathlib.Core.Path.{◌≡◌, refl, sym, ap, ◌∙◌}
use mathlib.Core.Bool.{Bool, true, false, cond, ◌&&◌}
use mathlib.Core.Logic.{◌≢◌}
use mathlib.Core.List.{List, [], ◌∷◌, ◌++◌, map, map-append, append-nil, append_assoc}
use mathlib.Core.Option.{some, none}
use Prim.Native.Nat.{ℕ, zero, suc, ◌+◌, ◌≤◌, ◌<◌}
use native.Mathlib.Numerals.{add-one}
use native.Mathlib.Omega.{arith}
use borrow.Author.Tests.{eq-eqb, ne_eqb}
use lib.ListN.{length, take, drop, set, get_or, length-append, length-map}
use lib.Seq.{take-suc, take-suc-set, get_or-take}
use Rattle.integers.proofs.Tests.{Test, passed, failed}
use Rattle.lists.specs.Lists.{keep, all}
use Rattle.lists.proofs.Kept.{keep_length, keep_append}
use Rattle.filerules.proofs.Words.{Regular}
use Rattle.filerules.proofs.Names.{is_field_column, good-many, good-few, names-read}
use Rattle.model.specs.Bytes.{Bytes}
use Rattle.model.specs.MapFile.{Table, all_names}
use Rattle.model.specs.Reader.{Layout, fields_of, column_of, is_field, layout_of, good_fields, columns}
use Rattle.cursor.specs.declared.Cursor.{Cursor}
use Rattle.cursor.specs.Parts.{first_line}
use Rattle.columns.specs.declared.Columns.{Columns}
use Rattle.columns.specs.Given.{max_names, column_list, layout_in, line_fields, table_with, NoName, Seeking, NameGiven, NamesGiven, LaidOut, NamesLineGiven, GoodColumns}

-- ---- one name more

module _ {text : Bytes} {from : ℕ} {cs : Columns} (s : Seeking text from 1 cs) (wide : length cs.at ≡ max_names) (name : Bytes) {i : ℕ}
    (e : i ≡ column_of name (line_fields text from)) where
  -- the fields of the line
  abbrev seek_fields : List Bytes
  seek_fields = line_fields text from

  columns-more : column_list (record { fields = cs.fields; named = cs.named; count = cs.count + 1; at = set cs.at cs.count i })
      ≡ column_list cs ++ (column_of name seek_fields ∷ [])
  columns-more = rw (add-one cs.count, take-suc-set cs.at cs.count i (omega (arith, s.room)), e) refl

  -- a field is the name
  pub name_found : i < cs.fields
      → NameGiven name seek_fields cs (record { fields = cs.fields; named = cs.named + 1; count = cs.count + 1; at = set cs.at cs.count i })
  name_found h =
      record { fields = refl; named = go (is_field seek_fields name) (is_field_column seek_fields name); count = add-one cs.count; columns = columns-more }
    where
      go : (b : Bool) → Test (column_of name seek_fields < length seek_fields) (column_of name seek_fields ≡ length seek_fields) b → cs.named + 1 ≡ cond b (suc cs.named) cs.named
      go true t = add-one cs.named
      go false (failed q) = absurd (omega (arith, s.fields))

  -- none is
  pub name_absent : cs.fields ≤ i
      → NameGiven name seek_fields cs (record { fields = cs.fields; named = cs.named; count = cs.count + 1; at = set cs.at cs.count i })
  name_absent h =
      record { fields = refl; named = go (is_field seek_fields name) (is_field_column seek_fields name); count = add-one cs.count; columns = columns-more }
    where
      go : (b : Bool) → Test (column_of name seek_fields < length seek_fields) (column_of name seek_fields ≡ length seek_fields) b → cs.named ≡ cond b (suc cs.named) cs.named
      go true (passed q) = absurd (omega (arith, s.fields))
      go false t = refl

-- ---- names one after the other

-- no name is looked for
pub names_none : (fs : List Bytes) (cs : Columns) → NamesGiven [] fs cs cs
unfolding keep
names_none fs cs = record { fields = refl; named = omega arith; count = omega arith; columns = sym (append-nil (column_list cs)) }

-- one name more
pub names_more : {names fs : List Bytes} {cs r s : Columns} (n : Bytes) → NamesGiven names fs cs r → NameGiven n fs r s → NamesGiven (names ++ (n ∷ [])) fs cs s
unfolding keep
names_more {names} {fs} {cs} {r} {s} n l g =
    record {
      fields = g.fields ∙ l.fields;
      named = g.named
          ∙ rw (keep_append (is_field fs) names (n ∷ []), length-append (keep (is_field fs) names) (keep (is_field fs) (n ∷ []))) (go (is_field fs n));
      count = omega (arith, g.count, l.count, length-append names (n ∷ []));
      columns = g.columns ∙ rw (l.columns, map-append, append_assoc) refl;
    }
  where
    go : (b : Bool) → cond b (suc r.named) r.named ≡ cs.named + (length (keep (is_field fs) names) + length (cond {A = List Bytes} b (n ∷ []) []))
    go true = omega (arith, l.named)
    go false = omega (arith, l.named)

-- the next of the names to which a list refers
pub names_next : {fs : List Bytes} {cs r s : Columns} (names : List (Bor Bytes)) (i : ℕ) (d : Bor Bytes) → i < length names
    → NamesGiven (map (λ n. n.now) (take i names)) fs cs r → NameGiven (get_or names i d).now fs r s → NamesGiven (map (λ n. n.now) (take (i + 1) names)) fs cs s
names_next names i d h l g = rw (add-one i, take-suc names i d h, map-append) (names_more (get_or names i d).now l g)

-- no more of them are found than are looked for
pub names_few : {names fs : List Bytes} {cs r : Columns} → NamesGiven names fs cs r → cs.named ≤ cs.count → r.named ≤ r.count
names_few {names} {fs} g h = omega (arith, g.named, g.count, keep_length (is_field fs) names)

-- as many are kept as there are: all pass the test
keep_all : (f : Bytes → Bool) (l : List Bytes) → length l ≤ length (keep f l) → all f l ≡ true
unfolding keep all
keep_all f [] h = refl
keep_all f (x ∷ l) h = go (f x) (keep_all f l) (keep_length f l) h
  where
    go : (b : Bool) → (length l ≤ length (keep f l) → all f l ≡ true) → length (keep f l) ≤ length l
        → suc (length l) ≤ length (cond b (x ∷ keep f l) (keep f l)) → (b && all f l) ≡ true
    go true rec k h = rec (omega arith)
    go false rec k h = absurd (omega arith)

-- fewer are kept: one fails it
keep_fewer : (f : Bytes → Bool) (l : List Bytes) → length (keep f l) < length l → all f l ≡ false
unfolding keep all
keep_fewer f [] h = absurd (omega arith)
keep_fewer f (x ∷ l) h = go (f x) (keep_fewer f l) h
  where
    go : (b : Bool) → (length (keep f l) < length l → all f l ≡ false) → length (cond b (x ∷ keep f l) (keep f l)) < suc (length l) → (b && all f l) ≡ false
    go true rec h = rec (omega arith)
    go false rec h = refl

-- the names are looked for in the line that starts at a place of the text, and then the optional ones
module _ (text : Bytes) (from : ℕ) {n : ℕ} {start given : Columns} (names optional : List Bytes) (fresh : NoName n start) (all_fields : n ≡ length (line_fields text from))
    (g : NamesGiven names (line_fields text from) start given) where
  abbrev names_line : Bytes
  names_line = first_line (drop from text)

  -- a name is missing
  pub names_missing : given.named < length names → columns (table_with names optional) names_line ≡ none
  unfolding columns good_fields
  names_missing h = rw (keep_fewer (is_field (line_fields text from)) names (omega (arith, g.named, fresh.named))) refl

  module _ {r : Columns} (o : NamesGiven optional (line_fields text from) given r) where
    names_count : r.named ≡ length (keep (is_field (line_fields text from)) (names ++ optional))
    names_count =
        rw (keep_append (is_field (line_fields text from)) names optional)
        (omega (
          arith,
          o.named,
          g.named,
          fresh.named,
          length-append (keep (is_field (line_fields text from)) names) (keep (is_field (line_fields text from)) optional),
        ))

    fields_count : r.fields ≡ length (line_fields text from)
    fields_count = o.fields ∙ g.fields ∙ fresh.fields ∙ all_fields

    -- a field is no name, or stands twice
    pub names_uneven : r.fields ≢ r.named → columns (table_with names optional) names_line ≡ none
    unfolding columns good_fields
    names_uneven h =
        rw (ne_eqb (length (line_fields text from)) (length (keep (is_field (line_fields text from)) (names ++ optional))) (λ e. h (fields_count ∙ e ∙ sym names_count)))
        (go (all (is_field (line_fields text from)) names))
      where
        go : (b : Bool) → cond (b && false) (some (layout_of (table_with names optional) (line_fields text from))) none ≡ none
        go true = refl
        go false = refl

    -- the line is a names line
    pub names_laid : length names ≤ given.named → r.fields ≡ r.named → LaidOut (table_with names optional) names_line r
    unfolding columns good_fields layout_of
    names_laid h e =
        let listed : column_list r ≡ map (λ m. column_of m (line_fields text from)) (names ++ optional) =
        o.columns ∙ rw (g.columns, fresh.count, map-append) refl in
        record {
          count = omega (arith, o.count, g.count, fresh.count, length-append names optional);
          names = rw (
            keep_all (is_field (line_fields text from)) names (omega (arith, g.named, fresh.named)),
            eq-eqb (length (line_fields text from)) (length (keep (is_field (line_fields text from)) (names ++ optional))) (sym fields_count ∙ e ∙ names_count),
            listed,
            fields_count,
          ) refl;
        }

-- what is laid out for a table is laid out for another of the same names
pub names_line_given : (t : Table) (text : Bytes) (from : Cursor) {names optional : List Bytes} → names ≡ t.names → optional ≡ t.optional
    → (r : std.Option (Columns × Cursor)) → NamesLineGiven (table_with names optional) text from r → NamesLineGiven t text from r
unfolding columns good_fields layout_of
names_line_given t text from e o (std.Some (cs, next)) g =
    let w = rw (e, o) at g in
    (record { count = w.0.count; names = w.0.names }, w.1)
names_line_given t text from e o std.None g = rw (e, o) at g

-- ---- columns of a names line

column_most : (n : Bytes) (fs : List Bytes) → column_of n fs ≤ length fs
column_most n fs = go (is_field fs n) (is_field_column fs n)
  where
    go : (b : Bool) → Test (column_of n fs < length fs) (column_of n fs ≡ length fs) b → column_of n fs ≤ length fs
    go true (passed q) = omega arith
    go false (failed q) = omega arith

columns_most : (fs ns : List Bytes) (j : ℕ) → get_or (map (λ n. column_of n fs) ns) j 0 ≤ length fs
columns_most fs [] j = omega arith
columns_most fs (n ∷ ns) zero = column_most n fs
columns_most fs (n ∷ ns) (suc j) = columns_most fs ns j

-- each column is that of a field, or behind the last
pub laid-good : {t : Table} {line : Bytes} {cs : Columns} → LaidOut t line cs → Regular t → 2 ≤ length t.names → length (all_names t) ≤ max_names → GoodColumns cs
unfolding layout_of
laid-good {t} {line} {cs} g regular low high =
    let w = names-read regular line (layout_in cs) g.names in
    let fields : cs.fields ≡ length (fields_of line) = ap (λ (y : Layout). y.fields) w.1 in
    let listed : column_list cs ≡ map (λ n. column_of n (fields_of line)) (all_names t) = ap (λ (y : Layout). y.at) w.1 in
    let many = good-many regular w.0.named in
    record {
      several = omega (arith, g.count, length-append t.names t.optional);
      few = omega (arith, g.count);
      some_field = omega (arith, fields, many);
      few_fields = omega (arith, fields, good-few regular w.0.named);
      whole = ap length listed ∙ length-map (all_names t) _ ∙ sym g.count;
      within = λ j h.
          let most : get_or (column_list cs) j 0 ≤ cs.fields = rw (listed, fields) (columns_most (fields_of line) (all_names t) j) in
          rw (get_or-take cs.count cs.at j 0 h) at most;
    }
