-- The rows of a record and of a list: which they are, and how many; and their numbers.
use mathlib.Core.Path.{◌≡◌, refl, sym, ap, subst, ◌∙◌}
use mathlib.Core.Bool.{Bool, true, false, cond}
use mathlib.Core.List.Memᴰ
use mathlib.Core.List.{List, [], ◌∷◌, ◌++◌, flat_map}
use mathlib.Core.Logic.{◌↔◌, ◌⊎◌, inl, inr, ⊎_elim}
use Prim.Native.Nat.{ℕ, zero, suc, ◌+◌, ◌*◌, ◌≤◌, ◌<◌}
use native.Mathlib.Omega.{arith}
use lib.Dec.{T}
use lib.IntN.{ℤ, pos, ◌-ℤ◌}
use lib.ListN.{length, get_or, length-append}
use Rattle.integers.proofs.Linear.{ints, diff}
use Rattle.integers.proofs.Tests.{passed, failed}
use Rattle.lists.specs.Lists.{◌∈◌, Distinct, none, more}
use Rattle.lists.proofs.Membership.{flat_map_in, flat_map_out}
use Rattle.lists.proofs.Decisions.{Decides, decides_iff}
use Rattle.model.specs.Limits.{max_batch, batch_width}
use Rattle.model.specs.Bitmapping.{Record, Has}
use Rattle.model.specs.Verdicts.{has_bit}
use Rattle.batches.specs.Batch.{BatchRow, rows_in, batch_rows, batch_numbers}
use Rattle.model.proofs.Records.{has_at}
use Rattle.model.proofs.Lowest.{HasSome, has_bit?}

-- where the test says so, the record has the root bit, with its leaf bit
pub has_bit_true : (x : ℤ) (s : Record) → has_bit x s ≡ true → Has s x (x -ℤ s.displacement)
has_bit_true x s e = (decides_iff (has_bit? x s)).0 (subst T (sym e) tt)

-- the leaf bit of a root bit that a record has
pub leaf-bit : {s : Record} {x y : ℤ} → Has s x y → y ≡ x -ℤ s.displacement
leaf-bit {s} {x} {y} h = omega (arith, ints, h.apart, diff x y, diff x s.displacement)

-- rows with one place and one bit are one
pub row_same : {t u : BatchRow} → t.place ≡ u.place → t.bit ≡ u.bit → t ≡ u
row_same e f = λ j. record { place = e j; bit = f j }

-- ---- the rows of a record

-- the row is that of an address of the batch that the record has, with its leaf bit; the addresses stand from place i on
pub record RowOf (s : Record) (i : ℕ) (xs : List ℤ) (t : BatchRow) : Type 0 where
  pub index : ℕ
  pub within : index < length xs
  pub place : t.place ≡ i + index
  pub has : Has s (get_or xs index (pos 0)) t.bit

module _ (s : Record) where
  -- the row of one address, where the record has it
  abbrev pub row_of : ℕ → ℤ → BatchRow
  row_of i x = record { place = i; bit = x -ℤ s.displacement }

  -- a row of a record is that of such an address
  pub rows_in_lem : (i : ℕ) (xs : List ℤ) (t : BatchRow) → t ∈ rows_in s i xs ↔ RowOf s i xs t
  unfolding rows_in
  rows_in_lem i [] t = (λ m. absurd (Memᴰ.not-nil m), λ w. absurd (omega (arith, w.within)))
  rows_in_lem i (x ∷ xs) t = go (has_bit x s) (has_bit? x s) (rows_in_lem (suc i) xs t)
    where
      later : RowOf s (suc i) xs t → RowOf s i (x ∷ xs) t
      later w = record { index = suc w.index; within = omega (arith, w.within); place = omega (arith, w.place); has = w.has }

      earlier : RowOf s i (x ∷ xs) t → ((t.place ≡ i) × Has s x t.bit) ⊎ RowOf s (suc i) xs t
      earlier w = split w.index w.within w.place w.has
        where
          split : (k : ℕ) → k < length (x ∷ xs) → t.place ≡ i + k → Has s (get_or (x ∷ xs) k (pos 0)) t.bit
              → ((t.place ≡ i) × Has s x t.bit) ⊎ RowOf s (suc i) xs t
          split zero h e f = inl (omega (arith, e), f)
          split (suc k) h e f = inr (record { index = k; within = omega (arith, h); place = omega (arith, e); has = f })

      here : Has s x (x -ℤ s.displacement) → t ≡ row_of i x → RowOf s i (x ∷ xs) t
      here h e =
          record {
            index = 0;
            within = omega arith;
            place = ap (λ (u : BatchRow). u.place) e ∙ omega arith;
            has = subst (Has s x) (sym (ap (λ (u : BatchRow). u.bit) e)) h;
          }

      go : (b : Bool) → Decides (Has s x (x -ℤ s.displacement)) b → t ∈ rows_in s (suc i) xs ↔ RowOf s (suc i) xs t
          → t ∈ cond b (row_of i x ∷ rows_in s (suc i) xs) (rows_in s (suc i) xs) ↔ RowOf s i (x ∷ xs) t
      go true (passed h) rest = (
        λ m. ⊎_elim (here h) (λ n. later (rest.0 n)) (Memᴰ.cases_cons m),
        λ w. ⊎_elim (λ p. Memᴰ.head (row_same {u = row_of i x} p.0 (leaf-bit p.1))) (λ k. Memᴰ.tail (rest.1 k)) (earlier w),
      )
      go false (failed n) rest = (
        λ m. later (rest.0 m),
        λ w. ⊎_elim (λ p. absurd (n (has_at s x p.1.above p.1.below))) rest.1 (earlier w),
      )

  -- each stands there once: places ascend
  pub rows-distinct : (i : ℕ) (xs : List ℤ) → Distinct (rows_in s i xs)
  unfolding rows_in
  rows-distinct i [] = none
  rows-distinct i (x ∷ xs) = go (has_bit x s) (rows-distinct (suc i) xs)
    where
      new : row_of i x ∈ rows_in s (suc i) xs → ⊥
      new m = let w = (rows_in_lem (suc i) xs (row_of i x)).0 m in omega (arith, w.place)

      go : (b : Bool) → Distinct (rows_in s (suc i) xs) → Distinct (cond b (row_of i x ∷ rows_in s (suc i) xs) (rows_in s (suc i) xs))
      go true d = more new d
      go false d = d

  -- there are at most as many as addresses
  pub rows_few : (i : ℕ) (xs : List ℤ) → length (rows_in s i xs) ≤ length xs
  unfolding rows_in
  rows_few i [] = omega arith
  rows_few i (x ∷ xs) = go (has_bit x s) (rows_few (suc i) xs)
    where
      go : (b : Bool) → length (rows_in s (suc i) xs) ≤ length xs
          → length (cond b (row_of i x ∷ rows_in s (suc i) xs) (rows_in s (suc i) xs)) ≤ suc (length xs)
      go true h = omega arith
      go false h = omega arith

  -- those of two parts of a batch, one behind the other
  pub rows_append : (i : ℕ) (xs ys : List ℤ) → rows_in s i (xs ++ ys) ≡ rows_in s i xs ++ rows_in s (i + length xs) ys
  unfolding rows_in
  rows_append i [] ys = ap (λ (n : ℕ). rows_in s n ys) (omega arith)
  rows_append i (x ∷ xs) ys = go (has_bit x s) (rows_append (suc i) xs ys ∙ ap (λ (n : ℕ). rows_in s (suc i) xs ++ rows_in s n ys) (omega arith))
    where
      go : (b : Bool) → rows_in s (suc i) (xs ++ ys) ≡ rows_in s (suc i) xs ++ rows_in s (i + suc (length xs)) ys
          → cond b (row_of i x ∷ rows_in s (suc i) (xs ++ ys)) (rows_in s (suc i) (xs ++ ys))
          ≡ cond b (row_of i x ∷ rows_in s (suc i) xs) (rows_in s (suc i) xs) ++ rows_in s (i + suc (length xs)) ys
      go true e = ap (λ (ts : List BatchRow). row_of i x ∷ ts) e
      go false e = e

-- ---- the rows of a list

-- a row stands there for precisely the leaf bits that the list has of the address at its place
pub batch_has : (l : List Record) (xs : List ℤ) (t : BatchRow) → t ∈ batch_rows l xs ↔ ((t.place < length xs) × HasSome l (get_or xs t.place (pos 0)) t.bit)
unfolding batch_rows
batch_has l xs t = (
  λ m.
      let (s, n, k) = flat_map_out (λ s. rows_in s 0 xs) l m in
      let w = (rows_in_lem s 0 xs t).0 k in
      let e : t.place ≡ w.index = omega (arith, w.place) in
      (omega (arith, w.within), (s, n, subst (λ (i : ℕ). Has s (get_or xs i (pos 0)) t.bit) (sym e) w.has)),
  λ (h, (s, n, f)). flat_map_in (λ s. rows_in s 0 xs) n ((rows_in_lem s 0 xs t).1 (record { index = t.place; within = h; place = omega arith; has = f })),
)

-- there are at most as many as a batch can have addresses, for each record
pub batch-few : (l : List Record) (xs : List ℤ) → length xs ≤ max_batch → length (batch_rows l xs) ≤ max_batch * length l
unfolding batch_rows flat_map
batch-few [] xs h = omega arith
batch-few (s ∷ l) xs h = omega (arith, batch-few l xs h, rows_few s 0 xs, length-append (rows_in s 0 xs) (batch_rows l xs))

-- ---- the numbers of rows

-- two a row
pub batch_numbers_length : (ts : List BatchRow) → length (batch_numbers ts) ≡ batch_width * length ts
unfolding batch_numbers
batch_numbers_length [] = omega arith
batch_numbers_length (t ∷ ts) = omega (arith, batch_numbers_length ts)

-- those of rows behind rows
pub batch_numbers_append : (ts us : List BatchRow) → batch_numbers (ts ++ us) ≡ batch_numbers ts ++ batch_numbers us
unfolding batch_numbers
batch_numbers_append [] us = refl
batch_numbers_append (t ∷ ts) us = ap (λ (ns : List ℤ). pos t.place ∷ t.bit ∷ ns) (batch_numbers_append ts us)
