-- A names line: the columns of a table's names, and how many fields it has, field by field.
use mathlib.Core.Path.{◌≡◌, refl, sym, ap, ◌∙◌}
use mathlib.Core.Bool.{Bool, true, false, true≢false, cond}
use mathlib.Core.List.{[]}
use Prim.Native.Nat.{ℕ, suc, ◌+◌, ◌≤◌, ◌<◌}
use native.Mathlib.Numerals.{add-one}
use native.Mathlib.Omega.{arith}
use lib.ListN.{length, drop}
use Rattle.filerules.proofs.Names.{column_first, column_later}
use Rattle.model.specs.Bytes.{Bytes}
use Rattle.model.specs.Reader.{fields_of, column_of}
use Rattle.cursor.specs.Parts.{first_line, later_lines, first_field, blank_first, followed, rest_of}
use Rattle.cursor.specs.Given.{Stands}
use Rattle.cursor.proofs.Parts.{fields-first, later_inner, later_last}
use Rattle.columns.specs.Given.{line_fields}
use Rattle.cursor.proofs.Fields.{end_within, end_behind, end_rest, end_blank}

-- ---- how many fields a line has

count_goes : (t : Bytes) → followed t ≡ true → length (fields_of (first_line t)) ≡ suc (length (fields_of (first_line (rest_of t))))
count_goes t e = rw (fields-first t, e) refl

count-ends : (t : Bytes) → followed t ≡ false → length (fields_of (first_line t)) ≡ 1
count-ends t e = rw (fields-first t, e) refl

-- ---- the column of a name among the fields of the first line

module _ (name t : Bytes) {r : Bool} (test : (r ≡ true → name ≡ first_field t) × (name ≡ first_field t → r ≡ true)) where
  -- the first field is the name
  pub column_here : r ≡ true → column_of name (fields_of (first_line t)) ≡ 0
  column_here e =
      ap (column_of name) (fields-first t)
      ∙ column_first name (first_field t) (cond (followed t) (fields_of (first_line (rest_of t))) []) (test.0 e)

  module _ (other : r ≡ false) where
    column_behind : column_of name (fields_of (first_line t)) ≡ suc (column_of name (cond (followed t) (fields_of (first_line (rest_of t))) []))
    column_behind =
        ap (column_of name) (fields-first t)
        ∙ column_later name (first_field t) (cond (followed t) (fields_of (first_line (rest_of t))) []) (λ q. true≢false (sym (test.1 q) ∙ other))

    -- it is not, and another follows
    pub column_goes : followed t ≡ true → column_of name (fields_of (first_line t)) ≡ suc (column_of name (fields_of (first_line (rest_of t))))
    column_goes e = column_behind ∙ rw e refl

    -- it is not, and none follows
    pub column_none : followed t ≡ false → column_of name (fields_of (first_line t)) ≡ 1
    unfolding column_of
    column_none e = column_behind ∙ rw e refl

-- ---- a name, looked for among the fields of a line

-- a line has a field
fields_some : (t : Bytes) → 1 ≤ length (fields_of (first_line t))
fields_some t = rw (fields-first t) (omega arith)

-- the name is none of the first i fields of the line that starts at `from`, and the fields behind them start at `at`
pub record NameBehind (text name : Bytes) (from at i : ℕ) : Type 0 where
  pub within : at ≤ length text
  pub count : i + length (line_fields text at) ≡ length (line_fields text from)
  pub column : column_of name (line_fields text from) ≡ i + column_of name (line_fields text at)

-- so it is while there are fields behind them, and else the name is none of the fields
pub record NameLeft (text name : Bytes) (from at i : ℕ) : Type 0 where
  pub more : i < length (line_fields text from) → NameBehind text name from at i
  pub none : i ≡ length (line_fields text from) → column_of name (line_fields text from) ≡ i

-- no field is compared
pub name_left : (text name : Bytes) (from : ℕ) → from ≤ length text → NameLeft text name from from 0
name_left text name from h =
    record { more = λ _. record { within = h; count = omega arith; column = omega arith }; none = λ e. absurd (omega (arith, fields_some (drop from text))) }

module _ {text name : Bytes} {from at i : ℕ} (l : NameBehind text name from at i) {r : Bool}
    (test : (r ≡ true → name ≡ first_field (drop at text)) × (name ≡ first_field (drop at text) → r ≡ true)) where
  -- the next field is the name
  pub name_here : r ≡ true → i ≡ column_of name (line_fields text from)
  name_here e = omega (arith, l.column, column_here name (drop at text) test e)

  -- it is not
  pub name_next : (end : ℕ) → end ≡ at + length (first_field (drop at text)) → r ≡ false → NameLeft text name from (end + 1) (i + 1)
  name_next end e other = go (followed (drop at text)) refl
    where
      go : (b : Bool) → followed (drop at text) ≡ b → NameLeft text name from (end + 1) (i + 1)
      go true f =
          let rest : drop (end + 1) text ≡ rest_of (drop at text) = end_rest text at end l.within e in
          let there : end < length text = end_blank text at end l.within e (ap blank_first (end_behind text at end l.within e) ∙ f) in
          record {
            more = λ _. record {
              within = omega (arith, there);
              count = rw rest (omega (arith, l.count, count_goes (drop at text) f));
              column = rw rest (omega (arith, l.column, column_goes name (drop at text) test other f));
            };
            none = λ q. absurd (omega (arith, l.count, count_goes (drop at text) f, fields_some (rest_of (drop at text))));
          }
      go false f =
          record {
            more = λ h. absurd (omega (arith, l.count, count-ends (drop at text) f));
            none = λ _. omega (arith, l.column, column_none name (drop at text) test other f);
          }

-- ---- the number of fields

-- fields of the line that starts at `from` are counted, the last of which ends at `end`
pub record FieldsLeft (text : Bytes) (from fields end : ℕ) : Type 0 where
  pub at : ℕ
  pub within : at ≤ length text
  pub ends : end ≡ at + length (first_field (drop at text))
  pub few : fields ≤ at + 1
  pub count : fields + length (fields_of (first_line (drop at text))) ≡ suc (length (fields_of (first_line (drop from text))))
  pub later : later_lines (drop at text) ≡ later_lines (drop from text)

-- the first is counted
pub fields_one : (text : Bytes) (from end : ℕ) → from ≤ length text → end ≡ from + length (first_field (drop from text)) → FieldsLeft text from 1 end
fields_one text from end h e = record { at = from; within = h; ends = e; few = omega arith; count = omega arith; later = refl }

module _ {text : Bytes} {from fields end : ℕ} (l : FieldsLeft text from fields end) where
  -- they end in the text
  pub fields_within : end ≤ length text
  fields_within = end_within text l.at end l.within l.ends

  fields-followed : blank_first (drop end text) ≡ followed (drop l.at text)
  fields-followed = ap blank_first (end_behind text l.at end l.within l.ends)

  module _ (blank : blank_first (drop end text) ≡ true) where
    -- the space behind which the next field starts is in the text
    pub fields-blank : end < length text
    fields-blank = end_blank text l.at end l.within l.ends blank

    -- another field follows
    pub fields-more : (next : ℕ) → next ≡ end + 1 + length (first_field (drop (end + 1) text)) → FieldsLeft text from (fields + 1) next
    fields-more next e =
        let goes : followed (drop l.at text) ≡ true = sym fields-followed ∙ blank in
        let rest : drop (end + 1) text ≡ rest_of (drop l.at text) = end_rest text l.at end l.within l.ends in
        record {
          at = end + 1;
          within = omega (arith, fields-blank);
          ends = e;
          few = omega (arith, l.few, l.ends);
          count = omega (arith, l.count, count_goes (drop l.at text) goes, ap (λ (t : Bytes). length (fields_of (first_line t))) rest);
          later = ap later_lines rest ∙ later_inner (drop l.at text) goes ∙ l.later;
        }

  module _ (last : blank_first (drop end text) ≡ false) where
    -- all are counted
    pub fields-all : fields ≡ length (fields_of (first_line (drop from text)))
    fields-all = omega (arith, l.count, count-ends (drop l.at text) (sym fields-followed ∙ last))

    -- and the next line follows
    pub fields-next : (n p : ℕ) → (p ≤ length text) × (drop p text ≡ drop (end + 1) text)
        → Stands text (later_lines (drop from text)) (suc n) (record { at = p; line = n + 1 })
    fields-next n p h =
        record {
          within = h.0;
          before = h.1 ∙ end_rest text l.at end l.within l.ends ∙ later_last (drop l.at text) (sym fields-followed ∙ last) ∙ l.later;
          line = add-one n;
        }
