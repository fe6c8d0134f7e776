-- A value line, read value by value into the front of a row.
use Rattle.std.specs.Prelude as std
use mathlib.Core.Path.{◌≡◌, refl, sym, ap, ◌∙◌}
use mathlib.Core.Bool.{Bool, true, false}
use mathlib.Core.Logic.{◌≢◌}
use mathlib.Core.List.{List, [], ◌∷◌, ◌++◌, append_assoc}
use mathlib.Core.Option.{Option, none, some, map}
use Prim.Native.Nat.{ℕ, suc, ◌+◌, ◌-◌, ◌≤◌, ◌<◌}
use native.Mathlib.Numerals.{add-one}
use native.Mathlib.Omega.{arith}
use lib.Dec.{eqb}
use lib.IntN.{ℤ}
use lib.ListN.{length, take, drop, set, length-set, length-drop}
use lib.Seq.{take-suc-set, drop-set-lt}
use Rattle.integers.proofs.Tests.{Test, passed, failed, eq?}
use Rattle.model.specs.Bytes.{Bytes}
use Rattle.model.specs.Reader.{cons_option}
use Rattle.cursor.specs.declared.Cursor.{Cursor}
use Rattle.cursor.specs.Parts.{later_lines, rest_of, inner_value, last_value, value_at, rest_at, line_at, line_values}
use Rattle.cursor.specs.Given.{InText, Stands, LineGiven}
use Rattle.cursor.proofs.Parts.{rest_shorter, later_inner}
use Rattle.cursor.proofs.Fields.{values_inner, values-last, inner_followed}

-- values behind those that are read already
abbrev behind : List ℤ → Option (List ℤ) → Option (List ℤ)
behind xs o = map (λ vs. xs ++ vs) o

behind_nil : (o : Option (List ℤ)) → behind [] o ≡ o
behind_nil none = refl
behind_nil (some vs) = refl

behind_cons : (xs : List ℤ) (v : ℤ) (o : Option (List ℤ)) → behind xs (cons_option (some v) o) ≡ behind (xs ++ (v ∷ [])) o
unfolding cons_option
behind_cons xs v none = refl
behind_cons xs v (some vs) = ap {B = Option (List ℤ)} some (sym (append_assoc xs (v ∷ []) vs))

-- i values of the line that starts at c₀ are read into the front of the row, and the cursor c stands before the others
pub record LineLeft (text : Bytes) (width : ℕ) (row₀ : List ℤ) (c₀ : Cursor) (row : List ℤ) (c : Cursor) (i : ℕ) : Type 0 where
  pub short : i < width
  pub kept : length row ≡ length row₀
  pub rest : drop width row ≡ drop width row₀
  pub in_text : InText text c
  pub same : line_values width (drop c₀.at text) ≡ behind (take i row) (line_values (width - i) (drop c.at text))
  pub later : later_lines (drop c.at text) ≡ later_lines (drop c₀.at text)
  pub line : c.line ≡ c₀.line

module _ {text : Bytes} {width : ℕ} {row₀ : List ℤ} {c₀ : Cursor} {row : List ℤ} {c : Cursor} {i : ℕ} (l : LineLeft text width row₀ c₀ row c i) where
  -- what lies behind the values of the line stays
  pub left_rest : (v : ℤ) → drop width (set row i v) ≡ drop width row₀
  left_rest v = drop-set-lt width row i v l.short ∙ l.rest

  -- another value is due behind this one
  module _ (due : i + 1 < width) where
    left_inner : line_values (width - i) (drop c.at text)
        ≡ cons_option (inner_value (drop c.at text)) (line_values (width - (i + 1)) (rest_of (drop c.at text)))
    left_inner =
        let two : width - i ≡ suc (suc (width - (i + 2))) = omega arith in
        let one : width - (i + 1) ≡ suc (width - (i + 2)) = omega arith in
        rw (two, one) (values_inner (width - (i + 2)) (drop c.at text))

    -- a field that is no value, or the last
    pub left_stops : inner_value (drop c.at text) ≡ none → line_values width (drop c₀.at text) ≡ none
    unfolding cons_option
    left_stops e = l.same ∙ rw (left_inner, e) refl

    -- a value is read
    pub left_goes : {v : ℤ} {d : Cursor} → width ≤ length row₀ → inner_value (drop c.at text) ≡ some v
        → Stands text (rest_of (drop c.at text)) c.line d → LineLeft text width row₀ c₀ (set row i v) d (i + 1)
    left_goes {v} {d} room e s =
        let more : take (i + 1) (set row i v) ≡ take i row ++ (v ∷ []) = rw (add-one i) (take-suc-set row i v (omega (arith, l.kept))) in
        record {
          short = due;
          kept = length-set row i v ∙ l.kept;
          rest = left_rest v;
          in_text = record {
            within = s.within;
            low = omega (
              arith,
              l.in_text.low,
              l.in_text.within,
              s.line,
              s.within,
              ap length s.before,
              length-drop d.at text,
              length-drop c.at text,
              rest_shorter (drop c.at text),
            );
          };
          same = l.same ∙ rw (left_inner, e, more, s.before) (behind_cons (take i row) v (line_values (width - (i + 1)) (rest_of (drop c.at text))));
          later = ap later_lines s.before ∙ later_inner (drop c.at text) (inner_followed (drop c.at text) e) ∙ l.later;
          line = s.line ∙ l.line;
        }

  -- this value is the last
  module _ (due : width ≤ i + 1) where
    left_one : line_values (width - i) (drop c.at text) ≡ cons_option (last_value (drop c.at text)) (some [])
    left_one = let one : width - i ≡ 1 = omega (arith, l.short) in rw one (values-last (drop c.at text))

    -- a field that is no value, or not the last
    pub left_fails : last_value (drop c.at text) ≡ none → line_values width (drop c₀.at text) ≡ none
    unfolding cons_option
    left_fails e = l.same ∙ rw (left_one, e) refl

    -- the value is read, and with it the line
    pub left_ends : {v : ℤ} {d : Cursor} → width ≤ length row₀ → last_value (drop c.at text) ≡ some v
        → Stands text (later_lines (drop c.at text)) (suc c.line) d
        → (line_values width (drop c₀.at text) ≡ some (take width (set row i v))) × Stands text (later_lines (drop c₀.at text)) (suc c₀.line) d
    unfolding cons_option
    left_ends {v} room e s =
        let n : width ≡ suc i = omega (arith, l.short) in
        let all : take width (set row i v) ≡ take i row ++ (v ∷ []) = rw n (take-suc-set row i v (omega (arith, l.kept))) in (
          l.same ∙ rw (left_one, e, all) refl,
          record { within = s.within; before = s.before ∙ l.later; line = s.line ∙ ap suc l.line },
        )

-- i values of the line that starts at c₀ are read into the front of the row, and the cursor c stands before the others, or before the next line
pub record LineState (text : Bytes) (width : ℕ) (row₀ : List ℤ) (c₀ : Cursor) (row : List ℤ) (c : Cursor) (i : ℕ) : Type 0 where
  pub left : i < width → LineLeft text width row₀ c₀ row c i
  pub read : i ≡ width → LineGiven text c₀ width row (std.Some c)
  pub kept : length row ≡ length row₀
  pub rest : drop width row ≡ drop width row₀

module _ {text : Bytes} {width : ℕ} {row₀ : List ℤ} {c₀ : Cursor} {row : List ℤ} {c : Cursor} {i : ℕ} (s : LineState text width row₀ c₀ row c i) (due : i < width) where
  -- the next field is no value
  pub state_stops : value_at (eqb (i + 1) width) (drop c.at text) ≡ none → line_values width (drop c₀.at text) ≡ none
  state_stops = go (eqb (i + 1) width) (eq? (i + 1) width)
    where
      go : (b : Bool) → Test (i + 1 ≡ width) (i + 1 ≢ width) b → value_at b (drop c.at text) ≡ none → line_values width (drop c₀.at text) ≡ none
      go true (passed e) n = left_fails (s.left due) (omega arith) n
      go false (failed e) n = left_stops (s.left due) (omega arith) n

  -- its value is read
  pub state_goes : {v : ℤ} {d : Cursor} → width ≤ length row₀ → value_at (eqb (i + 1) width) (drop c.at text) ≡ some v
      → Stands text (rest_at (eqb (i + 1) width) (drop c.at text)) (line_at (eqb (i + 1) width) c.line) d → LineState text width row₀ c₀ (set row i v) d (i + 1)
  state_goes {v} {d} room = go (eqb (i + 1) width) (eq? (i + 1) width)
    where
      go : (b : Bool) → Test (i + 1 ≡ width) (i + 1 ≢ width) b → value_at b (drop c.at text) ≡ some v
          → Stands text (rest_at b (drop c.at text)) (line_at b c.line) d → LineState text width row₀ c₀ (set row i v) d (i + 1)
      go true (passed e) q t =
          record {
            left = λ h. absurd (omega arith);
            read = λ _. left_ends (s.left due) (omega arith) room q t;
            kept = length-set row i v ∙ s.kept;
            rest = left_rest (s.left due) v;
          }
      go false (failed e) q t =
          let more = left_goes (s.left due) (omega arith) room q t in
          record { left = λ _. more; read = λ h. absurd (omega arith); kept = more.kept; rest = more.rest }
