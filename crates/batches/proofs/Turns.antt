-- The rows of a record, address by address: what one more address adds to those of the first, and to the front of a buffer.
use mathlib.Core.Path.{◌≡◌, refl, sym, ap, ◌∙◌}
use mathlib.Core.Bool.{Bool, true, false, cond}
use mathlib.Core.List.{List, [], ◌∷◌, ◌++◌, append_assoc, append-nil}
use Prim.Native.Nat.{ℕ, suc, ◌+◌, ◌*◌, ◌≤◌, ◌<◌}
use native.Mathlib.Numerals.{add-one}
use native.Mathlib.Omega.{arith}
use lib.IntN.{ℤ, pos}
use lib.ListN.{length, get_or, take, drop, set, length-append, length-drop, take-append-drop}
use lib.Seq.{take-suc, take_all, drop-cons, set_at, length-take-le}
use Rattle.model.specs.Limits.{batch_width}
use Rattle.model.specs.Bitmapping.{Record}
use Rattle.model.specs.Verdicts.{has_bit}
use Rattle.batches.specs.Batch.{BatchRow, rows_in, batch_numbers}
use Rattle.batches.specs.Buffers.{rows_over}
use Rattle.batches.proofs.Rows.{row_of, rows_few, rows_append, batch_numbers_length, batch_numbers_append}

module _ (s : Record) (xs : List ℤ) where
  -- the rows of the first i addresses
  abbrev pub rows_to : ℕ → List BatchRow
  rows_to i = rows_in s 0 (take i xs)

  -- of no address there is none
  pub rows_none : rows_to 0 ≡ []
  unfolding rows_in
  rows_none = refl

  -- of all of them there are those of the batch
  pub rows_all : {i : ℕ} → length xs ≤ i → rows_to i ≡ rows_in s 0 xs
  rows_all {i} h = ap (rows_in s 0) (take_all i xs h)

  -- the first are at most as many as the addresses
  pub rows-to-few : {i : ℕ} → i ≤ length xs → length (rows_to i) ≤ i
  rows-to-few {i} h = omega (arith, rows_few s 0 (take i xs), length-take-le i xs h)

  -- the first are at most as many as all of them
  pub rows_part_few : (i : ℕ) → length (rows_to i) ≤ length (rows_in s 0 xs)
  rows_part_few i =
      let rest = rows_in s (0 + length (take i xs)) (drop i xs) in
      let all : rows_in s 0 xs ≡ rows_to i ++ rest = ap (rows_in s 0) (sym (take-append-drop i xs)) ∙ rows_append s 0 (take i xs) (drop i xs) in
      omega (arith, ap length all, length-append (rows_to i) rest)

  module _ {i : ℕ} (h : i < length xs) where
    -- one address more
    rows_more : rows_to (i + 1) ≡ rows_to i ++ rows_in s i (get_or xs i (pos 0) ∷ [])
    rows_more =
        let at : length (take i xs) ≡ i = length-take-le i xs (omega arith) in
        ap rows_to (add-one i) ∙ ap (rows_in s 0) (take-suc xs i (pos 0) h) ∙ rows_append s 0 (take i xs) (get_or xs i (pos 0) ∷ [])
        ∙ ap (λ (k : ℕ). rows_to i ++ rows_in s k (get_or xs i (pos 0) ∷ [])) (omega arith)

    -- it gives a row where the record has it
    pub rows_hit : has_bit (get_or xs i (pos 0)) s ≡ true → rows_to (i + 1) ≡ rows_to i ++ (row_of s i (get_or xs i (pos 0)) ∷ [])
    unfolding rows_in
    rows_hit e =
        let row = row_of s i (get_or xs i (pos 0)) in
        rows_more ∙ ap (λ (b : Bool). rows_to i ++ cond b (row ∷ []) []) e

    -- and none where it has not
    pub rows_miss : has_bit (get_or xs i (pos 0)) s ≡ false → rows_to (i + 1) ≡ rows_to i
    unfolding rows_in
    rows_miss e =
        let row = row_of s i (get_or xs i (pos 0)) in
        rows_more ∙ ap (λ (b : Bool). rows_to i ++ cond b (row ∷ []) []) e ∙ append-nil (rows_to i)

    -- with a row that is given there are at most as many as of the whole batch
    pub rows_hit_few : has_bit (get_or xs i (pos 0)) s ≡ true → length (rows_to i) + 1 ≤ length (rows_in s 0 xs)
    rows_hit_few e =
        let row = row_of s i (get_or xs i (pos 0)) in
        omega (arith, rows_part_few (i + 1), ap length (rows_hit e), length-append (rows_to i) (row ∷ []))

-- ---- in the front of a buffer

-- rows in front leave its length as it was
pub over_length : (ts : List BatchRow) (old : List ℤ) → batch_width * length ts ≤ length old → length (rows_over ts old) ≡ length old
over_length ts old h =
    let rest = drop (batch_width * length ts) old in
    omega (arith, length-append (batch_numbers ts) rest, batch_numbers_length ts, length-drop (batch_width * length ts) old)

-- one row more is stored behind them
pub over-more : (ts : List BatchRow) (t : BatchRow) (old : List ℤ) (n : ℕ) → n ≡ length ts → batch_width * n + batch_width ≤ length old
    → set (set (rows_over ts old) (batch_width * n) (pos t.place)) (batch_width * n + 1) t.bit ≡ rows_over (ts ++ (t ∷ [])) old
unfolding batch_numbers
over-more ts t old n e h =
    ap (λ (k : ℕ). set (set (batch_numbers ts ++ drop (batch_width * k) old) (batch_width * n) p) (batch_width * n + 1) b) (sym e)
    ∙ ap (λ (r : List ℤ). set (set (batch_numbers ts ++ r) m p) (m + 1) b) split
    ∙ ap (λ (r : List ℤ). set r (m + 1) b) (set_at (batch_numbers ts) (get_or old m (pos 0)) (get_or old (suc m) (pos 0) ∷ rest) p m size)
    ∙ ap (λ (r : List ℤ). set r (m + 1) b) (sym (append_assoc (batch_numbers ts) (p ∷ []) (get_or old (suc m) (pos 0) ∷ rest)))
    ∙ set_at (batch_numbers ts ++ (p ∷ [])) (get_or old (suc m) (pos 0)) rest b (m + 1) (length-append (batch_numbers ts) (p ∷ []) ∙ omega (arith, size))
    ∙ append_assoc (batch_numbers ts) (p ∷ []) (b ∷ rest)
    ∙ sym (append_assoc (batch_numbers ts) (p ∷ b ∷ []) rest)
    ∙ ap (λ (r : List ℤ). r ++ rest) (sym (batch_numbers_append ts (t ∷ [])))
    ∙ ap (λ (k : ℕ). batch_numbers (ts ++ (t ∷ [])) ++ drop k old) (sym after)
  where
    m : ℕ
    m = batch_width * n

    p : ℤ
    p = pos t.place

    b : ℤ
    b = t.bit

    rest : List ℤ
    rest = drop (suc (suc m)) old

    size : length (batch_numbers ts) ≡ m
    size = omega (arith, batch_numbers_length ts)

    split : drop m old ≡ get_or old m (pos 0) ∷ get_or old (suc m) (pos 0) ∷ rest
    split = drop-cons old m (pos 0) (omega arith) ∙ ap (λ (r : List ℤ). get_or old m (pos 0) ∷ r) (drop-cons old (suc m) (pos 0) (omega arith))

    after : batch_width * length (ts ++ (t ∷ [])) ≡ suc (suc m)
    after = omega (arith, length-append ts (t ∷ []))
