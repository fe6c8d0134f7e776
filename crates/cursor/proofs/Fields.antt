-- Reading at a place of the text: where a field ends, what stands there, and the values of a line, field by field.
use mathlib.Core.Path.{◌≡◌, refl, sym, ap, ◌∙◌}
use mathlib.Core.Bool.{Bool, true, false, cond}
use mathlib.Core.Logic.{◌≢◌}
use mathlib.Core.List.{List, [], ◌∷◌}
use mathlib.Core.Option.{Option, none, some}
use Prim.Native.Nat.{ℕ, suc, ◌+◌, ◌-◌, ◌≤◌, ◌<◌}
use native.Mathlib.Numerals.{add-one}
use native.Mathlib.Omega.{arith}
use borrow.Author.Tests.{eq-eqb, ne_eqb}
use lib.Dec.{eqb}
use lib.IntN.{ℤ}
use lib.ListN.{length, take, drop, length-drop}
use lib.Seq.{drop-drop}
use Rattle.integers.proofs.Tests.{Test, passed, failed, eq?}
use Rattle.filerules.proofs.Options.{none-some}
use Rattle.model.specs.Bytes.{Bytes}
use Rattle.model.specs.Reader.{fields_of, value_of, values_of, cons_option}
use Rattle.values.specs.Given.{signed_value}
use Rattle.cursor.specs.declared.Field.{Field}
use Rattle.cursor.specs.Parts.{first_line, later_lines, first_field, behind_field, blank_first, followed, rest_of, inner_value, last_value, exactly, line_values}
use Rattle.cursor.specs.Given.{FieldGiven, Stands}
use Rattle.cursor.proofs.Parts.{field_front, field_rest, field_short, fields-first, later_last}

-- ---- a field that starts at `at` and ends at `end`

module _ (s : Bytes) (at end : ℕ) (within : at ≤ length s) (ends : end ≡ at + length (first_field (drop at s))) where
  -- it ends in the text
  pub end_within : end ≤ length s
  end_within = omega (arith, field_short (drop at s), length-drop at s)

  -- it is a part of the text
  pub end_part : take (end - at) (drop at s) ≡ first_field (drop at s)
  end_part = let n : end - at ≡ length (first_field (drop at s)) = omega arith in rw n (field_front (drop at s))

  -- what lies behind it
  pub end_behind : drop end s ≡ behind_field (drop at s)
  end_behind = rw (ends, ← drop-drop (length (first_field (drop at s))) at s) (field_rest (drop at s))

  -- what lies behind the byte that ends it
  pub end_rest : drop (end + 1) s ≡ rest_of (drop at s)
  end_rest = sym (drop-drop 1 end s) ∙ ap (drop 1) end_behind

  -- the space that ends it is in the text
  pub end_blank : blank_first (drop end s) ≡ true → end < length s
  unfolding blank_first
  end_blank e = go (drop end s) (length-drop end s) e
    where
      go : (u : Bytes) → length u ≡ length s - end → blank_first u ≡ true → end < length s
      go [] n e = let z : ◌≡◌ {A = ℕ} 0 1 = cc in absurd (omega arith)
      go (c ∷ u) n e = omega (arith, n)

-- ---- what was read of a field

module _ (text : Bytes) (at : ℕ) (within : at ≤ length text) {f : Field} (g : FieldGiven text at f) where
  -- it ends in the text
  pub given_within : f.end ≤ length text
  given_within = end_within text at f.end within g.ends

  -- the value of a field behind which another follows
  pub given_inner : f.more ≡ true → {o : Option ℤ} → signed_value f.value ≡ o → inner_value (drop at text) ≡ o
  given_inner e q = rw (sym g.more ∙ e) (sym g.value ∙ q)

  -- the value of the last field of a line
  pub given_last : f.more ≡ false → {o : Option ℤ} → signed_value f.value ≡ o → last_value (drop at text) ≡ o
  given_last e q = rw (sym g.more ∙ e) (sym g.value ∙ q)

  -- the place of the next field
  pub given_next : (n p : ℕ) → f.more ≡ true → (p ≤ length text) × (drop p text ≡ drop (f.end + 1) text)
      → Stands text (rest_of (drop at text)) n (record { at = p; line = n })
  given_next n p e h = record { within = h.0; before = h.1 ∙ end_rest text at f.end within g.ends; line = refl }

  -- the place of the next line
  pub given_later : (n p : ℕ) → f.more ≡ false → (p ≤ length text) × (drop p text ≡ drop (f.end + 1) text)
      → Stands text (later_lines (drop at text)) (suc n) (record { at = p; line = n + 1 })
  given_later n p e h =
      record {
        within = h.0;
        before = h.1 ∙ end_rest text at f.end within g.ends ∙ later_last (drop at text) (sym g.more ∙ e);
        line = add-one n;
      }

-- ---- the values of a line

-- a field with an inner value is followed by another
pub inner_followed : (t : Bytes) {v : ℤ} → inner_value t ≡ some v → followed t ≡ true
inner_followed t e = go (followed t) e
  where
    go : (b : Bool) {v : ℤ} → cond b (value_of (first_field t)) none ≡ some v → b ≡ true
    go true e = refl
    go false e = absurd (none-some e)

suc_eqb : (m n : ℕ) → eqb (suc m) (suc n) ≡ eqb m n
suc_eqb m n = go (eqb m n) (eq? m n)
  where
    go : (b : Bool) → Test (m ≡ n) (m ≢ n) b → eqb (suc m) (suc n) ≡ b
    go true (passed e) = eq-eqb (suc m) (suc n) (ap suc e)
    go false (failed e) = ne_eqb (suc m) (suc n) (λ k. e (omega arith))

-- an element more
exactly_cons : (n : ℕ) (a : Option ℤ) (b : Option (List ℤ)) → exactly (suc n) (cons_option a b) ≡ cons_option a (exactly n b)
unfolding exactly cons_option
exactly_cons n none b = refl
exactly_cons n (some x) none = refl
exactly_cons n (some x) (some vs) = rw (suc_eqb (length vs) n) (go (eqb (length vs) n))
  where
    go : (b : Bool) → cond b (some (x ∷ vs)) none ≡ cons_option (some x) (cond b (some vs) none)
    go true = refl
    go false = refl

cons_none : (a : Option ℤ) → cons_option a none ≡ none
unfolding cons_option
cons_none none = refl
cons_none (some x) = refl

-- no line has no field
exactly_zero : (t : Bytes) → line_values 0 t ≡ none
unfolding values_of exactly cons_option
exactly_zero t = rw (fields-first t) (go (value_of (first_field t)) (values_of (cond (followed t) (fields_of (first_line (rest_of t))) [])))
  where
    go : (a : Option ℤ) (b : Option (List ℤ)) → exactly 0 (cons_option a b) ≡ none
    go none b = refl
    go (some x) none = refl
    go (some x) (some vs) = rw (ne_eqb (suc (length vs)) 0 (λ e. omega arith)) refl

-- the first value, and the values behind it
values-first : (n : ℕ) (t : Bytes)
    → line_values (suc n) t ≡ cons_option (value_of (first_field t)) (exactly n (values_of (cond (followed t) (fields_of (first_line (rest_of t))) [])))
unfolding values_of
values-first n t =
    rw (fields-first t) (exactly_cons n (value_of (first_field t)) (values_of (cond (followed t) (fields_of (first_line (rest_of t))) [])))

-- the first value of several, and the values behind it
pub values_inner : (n : ℕ) (t : Bytes) → line_values (suc (suc n)) t ≡ cons_option (inner_value t) (line_values (suc n) (rest_of t))
unfolding exactly values_of cons_option
values_inner n t = values-first (suc n) t ∙ go (followed t)
  where
    go : (b : Bool) → cons_option (value_of (first_field t)) (exactly (suc n) (values_of (cond b (fields_of (first_line (rest_of t))) [])))
        ≡ cons_option (cond b (value_of (first_field t)) none) (line_values (suc n) (rest_of t))
    go true = refl
    go false = rw (ne_eqb 0 (suc n) (λ e. omega arith)) (cons_none (value_of (first_field t)))

-- one value alone
pub values-last : (t : Bytes) → line_values 1 t ≡ cons_option (last_value t) (some [])
unfolding exactly values_of cons_option
values-last t = values-first 0 t ∙ go (followed t)
  where
    go : (b : Bool) → cons_option (value_of (first_field t)) (exactly 0 (values_of (cond b (fields_of (first_line (rest_of t))) [])))
        ≡ cons_option (cond b none (value_of (first_field t))) (some [])
    go true = rw (exactly_zero (rest_of t)) (cons_none (value_of (first_field t)))
    go false = refl
