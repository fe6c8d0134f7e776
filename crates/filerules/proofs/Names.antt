-- Names lines: the reader gives columns exactly where the fields of the line are a table's names, and a field's column is where it stands.
use mathlib.Core.Path.{◌≡◌, refl, sym, ap, subst, ◌∙◌}
use mathlib.Core.Bool.{Bool, true, false, cond}
use mathlib.Core.Logic.{◌≢◌, ◌⊎◌, inl, inr, ⊎_elim, ◌↔◌}
use mathlib.Core.List.Memᴰ
use mathlib.Core.List.{List, [], ◌∷◌}
use mathlib.Core.Option.{none, some}
use Prim.Native.Nat.{suc, ◌≤◌, ◌<◌}
use native.Mathlib.Omega.{arith}
use lib.ListN.{length}
use Rattle.integers.proofs.Tests.{Test, passed, failed, eq?}
use Rattle.lists.specs.Lists.{◌∈◌, keep, Distinct}
use Rattle.lists.proofs.Membership.{keep_in, keep_out}
use Rattle.lists.proofs.Distinct.{distinct_length, distinct_covers, distinct-covered, keep-distinct, front-distinct}
use Rattle.lists.proofs.Decisions.{Decides, test_map, decides_iff, decides_as, decides_and, any?, all?}
use Rattle.model.specs.Bytes.{Bytes, blank, same}
use Rattle.model.specs.MapFile.{Table, all_names, GoodFields, NamesLine}
use Rattle.model.specs.Reader.{Layout, fields_of, column_of, is_field, layout_of, good_fields, columns}
use Rattle.filerules.proofs.Options.{some_same, choice_in, choice_out}
use Rattle.filerules.proofs.Words.{same?, Regular, word_lacks_blank}
use Rattle.filerules.proofs.Splits.{AllLack}
use Rattle.filerules.proofs.Fields.{fields-spaced, spaced-fields}

-- ---- the column of a name

-- is_field decides whether one of the fields is the name
pub is_field? : (fs : List Bytes) (n : Bytes) → Decides (n ∈ fs) (is_field fs n)
unfolding is_field
is_field? fs n = test_map (λ w. Memᴰ.cast w.2 w.1) (λ h m. h n m refl) (any? (same? n) fs)

-- the first field is the name
pub column_first : (n f : Bytes) (fs : List Bytes) → n ≡ f → column_of n (f ∷ fs) ≡ 0
unfolding column_of
column_first n f fs e = choice_in (suc (column_of n fs)) (same? n f) e

-- it is not
pub column_later : (n f : Bytes) (fs : List Bytes) → n ≢ f → column_of n (f ∷ fs) ≡ suc (column_of n fs)
unfolding column_of
column_later n f fs h = go (same n f) (same? n f)
  where
    go : (b : Bool) → Decides (n ≡ f) b → cond b 0 (suc (column_of n fs)) ≡ suc (column_of n fs)
    go true (passed e) = absurd (h e)
    go false (failed e) = refl

-- a name that is no field has the column behind the last
pub column_absent : (n : Bytes) (fs : List Bytes) → (n ∈ fs → ⊥) → column_of n fs ≡ length fs
unfolding column_of
column_absent n [] h = refl
column_absent n (f ∷ fs) h = column_later n f fs (λ e. h (Memᴰ.head e)) ∙ ap suc (column_absent n fs (λ m. h (Memᴰ.tail m)))

-- one that is a field has the column of a field
pub column_present : (n : Bytes) (fs : List Bytes) → n ∈ fs → column_of n fs < length fs
unfolding column_of
column_present n [] m = absurd (Memᴰ.not-nil m)
column_present n (f ∷ fs) m = go (same n f) (same? n f) (Memᴰ.cases_cons m) (column_present n fs)
  where
    go : (b : Bool) → Decides (n ≡ f) b → (n ≡ f) ⊎ (n ∈ fs) → (n ∈ fs → column_of n fs < length fs) → cond b 0 (suc (column_of n fs)) < suc (length fs)
    go true (passed q) k rec = omega arith
    go false (failed q) (inl k) rec = absurd (q k)
    go false (failed q) (inr k) rec = omega (arith, rec k)

-- is_field tells a column of a field
pub is_field_column : (fs : List Bytes) (n : Bytes) → Test (column_of n fs < length fs) (column_of n fs ≡ length fs) (is_field fs n)
is_field_column fs n = test_map (column_present n fs) (column_absent n fs) (is_field? fs n)

-- ---- the fields of a names line

module _ {t : Table} (regular : Regular t) where
  -- the names of the table among the fields
  among : List Bytes → List Bytes
  among fs = keep (is_field fs) (all_names t)

  among_out : (fs : List Bytes) (n : Bytes) → n ∈ among fs → (n ∈ all_names t) × (n ∈ fs)
  unfolding among
  among_out fs n m = let w = keep_out (is_field fs) (all_names t) m in (w.0, (decides_iff (is_field? fs n)).0 w.1)

  among-once : (fs : List Bytes) → Distinct (among fs)
  unfolding among
  among-once fs = keep-distinct (is_field fs) regular.once

  -- every field is a name
  pub good-names : {fs : List Bytes} → GoodFields t fs → (f : Bytes) → f ∈ fs → f ∈ all_names t
  good-names g f m = ⊎_elim (Memᴰ.append_left t.optional) (Memᴰ.append_right t.names) (g.known f m)

  -- the fields are right exactly where they have each name and are as many as the names among them
  good-count : (fs : List Bytes) → (((n : Bytes) → n ∈ t.names → n ∈ fs) × (length fs ≡ length (among fs))) ↔ GoodFields t fs
  unfolding among
  good-count fs = (
    λ w. record {
      once = distinct-covered (among-once fs) fs found (omega (arith, w.1));
      each = w.0;
      known = λ f m. Memᴰ.append_cases t.names (among_out fs f (distinct_covers (among-once fs) fs found (omega (arith, w.1)) f m)).0;
    },
    λ g. (g.each, omega (arith, distinct_length g.once (among fs) (kept g), distinct_length (among-once fs) fs found)),
  )
    where
      found : (n : Bytes) → n ∈ among fs → n ∈ fs
      found n m = (among_out fs n m).1

      kept : GoodFields t fs → (f : Bytes) → f ∈ fs → f ∈ among fs
      kept g f m = keep_in (is_field fs) ((decides_iff (is_field? fs f)).1 m) (good-names g f m)

  -- good_fields decides whether the fields are right
  pub good_fields? : (fs : List Bytes) → Decides (GoodFields t fs) (good_fields t fs)
  unfolding good_fields among
  good_fields? fs =
      decides_as (good-count fs)
      (decides_and (test_map (λ h. h) (λ w h. w.2 (h w.0 w.1)) (all? (is_field? fs) t.names)) (eq? (length fs) (length (among fs))))

  -- no field has a space
  good_lack : {fs : List Bytes} → GoodFields t fs → AllLack blank fs
  good_lack g f m = word_lacks_blank (regular.words f (good-names g f m))

  -- there are at least as many fields as names that the line must have
  pub good-many : {fs : List Bytes} → GoodFields t fs → length t.names ≤ length fs
  good-many {fs} g = distinct_length (front-distinct t.names t.optional regular.once) fs g.each

  -- and no more than names
  pub good-few : {fs : List Bytes} → GoodFields t fs → length fs ≤ length (all_names t)
  good-few g = distinct_length g.once (all_names t) (good-names g)

  -- there is a field
  pub good-some : {fs : List Bytes} → GoodFields t fs → fs ≢ []
  good-some {fs} g e = go t.names refl regular.some
    where
      go : (ns : List Bytes) → t.names ≡ ns → t.names ≢ [] → ⊥
      go [] q h = h q
      go (n ∷ ns) q h =
          let named : n ∈ t.names = subst (λ (l : List Bytes). n ∈ l) (sym q) (Memᴰ.head refl) in
          Memᴰ.not-nil (subst (λ (l : List Bytes). n ∈ l) e (g.each n named))

  -- ---- names lines of a table

  -- the line for which the reader gives columns is a names line, and they are those of its fields
  pub names-read : (line : Bytes) (y : Layout) → columns t line ≡ some y → NamesLine t (fields_of line) line × (y ≡ layout_of t (fields_of line))
  unfolding columns
  names-read line y e =
      let w = choice_out (good_fields? (fields_of line)) e in
      (record { writes = sym (spaced-fields line); named = w.0 }, sym (some_same w.1))

  module _ {fields : List Bytes} {line : Bytes} (names : NamesLine t fields line) where
    -- a names line has one list of fields
    pub names-fields : fields_of line ≡ fields
    names-fields = ap fields_of names.writes ∙ fields-spaced fields (good-some names.named) (good_lack names.named)

    -- the reader gives columns for a names line of the table
    pub names-columns : columns t line ≡ some (layout_of t fields)
    unfolding columns
    names-columns = rw names-fields (choice_in none (good_fields? fields) names.named)

  -- the reader gives columns exactly where the line is a names line of the table
  pub names-exact : (line : Bytes) → ((y : Layout) × (columns t line ≡ some y)) ↔ ((fields : List Bytes) × NamesLine t fields line)
  names-exact line = (λ w. (fields_of line, (names-read line w.0 w.1).0), λ w. (layout_of t w.0, names-columns w.1))
