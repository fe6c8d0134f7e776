-- A line of numbers, field by field.
use mathlib.Core.Path.{◌≡◌, refl, sym, ap, ◌∙◌}
use mathlib.Core.List.{List, [], ◌∷◌, ◌++◌, map, append_assoc}
use Prim.Native.Nat.{ℕ, zero, suc, ◌+◌, ◌-◌, ◌^◌, ◌≤◌, ◌<◌}
use native.Mathlib.Numerals.{add-one}
use native.Mathlib.Omega.{arith}
use lib.IntN.{ℤ, pos, negsuc}
use lib.ListN.{length, take, get_or, length-append}
use lib.Seq.{take_all}
use Rattle.model.specs.Answers.{numbered}
use Rattle.model.specs.Bytes.{Bytes, bytes, blank, line_feed, shown, spaced}
use Rattle.model.specs.Report.{line_of, refusal_report}
use Rattle.report.specs.Put.{field_at, refusal_room}
use Rattle.report.proofs.Digits.{digits-short, digits-within}

-- a number has at most twenty digits and a minus
pub shown-short : (v : ℤ) → length (shown v) ≤ 21
unfolding shown
shown-short (pos n) = omega (arith, digits-short 20 n)
shown-short (negsuc n) = omega (arith, digits-short 20 (suc n))

-- the first field is its number
pub field_first : (i : ℕ) (v : ℤ) → i ≡ 0 → field_at i v ≡ shown v
unfolding field_at
field_first zero v e = refl
field_first (suc i) v e = absurd (omega arith)

-- another has a space before it
pub field_later : (i : ℕ) (v : ℤ) → (i ≡ 0 → ⊥) → field_at i v ≡ blank ∷ shown v
unfolding field_at
field_later zero v z = absurd (z refl)
field_later (suc i) v z = refl

-- a field has at most a space, a minus and twenty digits
pub field_short : (i : ℕ) (v : ℤ) → length (field_at i v) ≤ 22
unfolding field_at
field_short zero v = omega (arith, shown-short v)
field_short (suc i) v = omega (arith, shown-short v)

-- the fields of the first i numbers
unfoldable pub fields : ℕ → List ℤ → Bytes
fields i vs = spaced (map shown (take i vs))

-- there are none at first
pub fields-none : (vs : List ℤ) → fields 0 vs ≡ []
unfolding fields spaced
fields-none vs = refl

fields_suc : (vs : List ℤ) (i : ℕ) → i < length vs → fields (suc i) vs ≡ fields i vs ++ field_at i (get_or vs i (pos 0))
unfolding fields spaced field_at
fields_suc [] i h = absurd (omega arith)
fields_suc (v ∷ vs) zero h = refl
fields_suc (v ∷ []) (suc i) h = absurd (omega arith)
fields_suc (v ∷ w ∷ vs) (suc zero) h = refl
fields_suc (v ∷ w ∷ vs) (suc (suc i)) h =
    ap (λ (l : Bytes). shown v ++ blank ∷ l) (fields_suc (w ∷ vs) (suc i) (omega arith))
    ∙ sym (append_assoc (shown v) (blank ∷ fields (suc i) (w ∷ vs)) (field_at (suc i) (get_or vs i (pos 0))))

-- one number more is one field more
pub fields-more : (vs : List ℤ) (i : ℕ) → i < length vs → fields (i + 1) vs ≡ fields i vs ++ field_at i (get_or vs i (pos 0))
fields-more vs i h = rw (add-one i) (fields_suc vs i h)

-- and as much longer
pub fields-more_length : (vs : List ℤ) (i : ℕ) → i < length vs
    → length (fields (i + 1) vs) ≡ length (fields i vs) + length (field_at i (get_or vs i (pos 0)))
fields-more_length vs i h = ap length (fields-more vs i h) ∙ length-append (fields i vs) (field_at i (get_or vs i (pos 0)))

-- all fields and a line feed are the line
pub fields-all : (vs : List ℤ) (i : ℕ) → length vs ≤ i → line_of vs ≡ fields i vs ++ (line_feed ∷ [])
unfolding line_of fields
fields-all vs i h = rw (take_all i vs h) refl

-- the line is one byte longer than its fields
pub fields-all_length : (vs : List ℤ) (i : ℕ) → length vs ≤ i → length (line_of vs) ≡ length (fields i vs) + 1
fields-all_length vs i h = ap length (fields-all vs i h) ∙ length-append (fields i vs) (line_feed ∷ [])

-- the first fields and a line feed are no longer than the line
fields_grow : (d i : ℕ) (vs : List ℤ) → i + d ≡ length vs → length (fields i vs) + 1 ≤ length (line_of vs)
fields_grow zero i vs e = omega (arith, fields-all_length vs i (omega arith))
fields_grow (suc d) i vs e = omega (arith, fields-more_length vs i (omega arith), fields_grow d (i + 1) vs (omega arith))

-- so they have room wherever the line has
pub fields_within : (vs : List ℤ) (i : ℕ) → i ≤ length vs → length (fields i vs) + 1 ≤ length (line_of vs)
fields_within vs i h = fields_grow (length vs - i) i vs (omega arith)

-- a number below 2^32 has at most ten digits
half_word : (n : ℕ) → n < 2 ^ 32 → length (shown (pos n)) ≤ 10
unfolding shown
half_word n h = digits-within 20 n 9 (omega arith)

-- three fields of at most ten bytes, two spaces and a line feed
refusal-line-within : (a b c : Bytes) → length a ≤ 10 → length b ≤ 10 → length c ≤ 10 → length (spaced (a ∷ b ∷ c ∷ []) ++ (line_feed ∷ [])) ≤ 33
unfolding spaced
refusal-line-within a b c h i j =
    omega (arith, length-append (a ++ blank ∷ (b ++ blank ∷ c)) (line_feed ∷ []), length-append a (blank ∷ (b ++ blank ∷ c)), length-append b (blank ∷ c))

-- what is printed for a refusal
pub refusal_parts : (number table row : ℕ)
    → refusal_report (numbered number table row) ≡ bytes "refusal table row\n" ++ line_of (pos number ∷ pos table ∷ pos row ∷ [])
unfolding refusal_report
refusal_parts number table row = refl

-- it has room where its numbers are below 2^32
pub refusal-within : (number table row : ℕ) → number < 2 ^ 32 → table < 2 ^ 32 → row < 2 ^ 32
    → length (bytes "refusal table row\n") + length (line_of (pos number ∷ pos table ∷ pos row ∷ [])) ≤ refusal_room
unfolding bytes line_of
refusal-within number table row h i j =
    omega (arith, refusal-line-within (shown (pos number)) (shown (pos table)) (shown (pos row)) (half_word number h) (half_word table i) (half_word row j))
