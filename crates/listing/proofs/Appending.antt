-- Rows appended to a flat list: none, one row stored, rows behind rows, and how long the list stays.
use mathlib.Core.Path.{◌≡◌, refl, sym, ap, ◌∙◌}
use mathlib.Core.List.{List, [], ◌∷◌, ◌++◌, append_assoc}
use Prim.Native.Nat.{ℕ, ◌+◌, ◌*◌, ◌≤◌}
use native.Mathlib.Nat.{add-zero}
use native.Mathlib.Omega.{arith}
use lib.IntN.{ℤ}
use lib.ListN.{length, take, drop, length-append, length-drop, length-take, take-append-drop}
use lib.Seq.{take_at, drop_at, drop-drop, length-take-le}
use Rattle.sorting.specs.declared.Row.{Row}
use Rattle.sorting.specs.Rows.{row_width, numbers_of, rows_of}
use Rattle.sorting.proofs.Tables.{numbers_of_length, numbers_of_append, rows_of_written}
use Rattle.listing.specs.Listing.{Appended}

-- no row changes nothing
pub append_none : (old : List ℤ) (n : ℕ) → Appended [] old old n n
unfolding numbers_of
append_none old n = record { count = omega arith; numbers = rw (add-zero n) (sym (take-append-drop (row_width * n) old)) }

-- one row stored behind n rows
pub append_one : (old new : List ℤ) (n : ℕ) (r : Row) → new ≡ take (row_width * n) old ++ (numbers_of (r ∷ []) ++ drop (row_width * n + row_width) old)
    → Appended (r ∷ []) old new n (n + 1)
append_one old new n r e =
    let d : row_width * (n + 1) ≡ row_width * n + row_width = omega arith in
    record { count = refl; numbers = e ∙ ap (λ k. take (row_width * n) old ++ (numbers_of (r ∷ []) ++ drop k old)) (sym d) }

-- the list keeps its length
pub append_length : {rows : List Row} {old new : List ℤ} {n r : ℕ} → row_width * (n + length rows) ≤ length old → Appended rows old new n r
    → length new ≡ length old
append_length {rows} {old} {n} h a =
    ap length a.numbers ∙ simp (length-append, length-drop, length-take) (omega (arith, numbers_of_length rows))

module _ {rows : List Row} {old new : List ℤ} {n r : ℕ} (h : row_width * (n + length rows) ≤ length old) (a : Appended rows old new n r) where
  -- the list up to the rows and with them, and what stands behind
  parted : new ≡ (take (row_width * n) old ++ numbers_of rows) ++ drop (row_width * (n + length rows)) old
  parted = a.numbers ∙ sym (append_assoc (take (row_width * n) old) (numbers_of rows) (drop (row_width * (n + length rows)) old))

  size : length (take (row_width * n) old ++ numbers_of rows) ≡ row_width * r
  size =
      omega (
        arith,
        length-append (take (row_width * n) old) (numbers_of rows),
        length-take-le (row_width * n) old (omega (arith, h)),
        numbers_of_length rows,
        a.count,
      )

  append_front : take (row_width * r) new ≡ take (row_width * n) old ++ numbers_of rows
  append_front = ap (take (row_width * r)) parted ∙ take_at (take (row_width * n) old ++ numbers_of rows) (drop (row_width * (n + length rows)) old) (row_width * r) size

  pub append_behind : drop (row_width * r) new ≡ drop (row_width * (n + length rows)) old
  append_behind = ap (drop (row_width * r)) parted ∙ drop_at (take (row_width * n) old ++ numbers_of rows) (drop (row_width * (n + length rows)) old) (row_width * r) size

-- rows behind rows
pub append_append : {first second : List Row} {old mid new : List ℤ} {n m r : ℕ} → row_width * (n + length (first ++ second)) ≤ length old
    → Appended first old mid n m → Appended second mid new m r → Appended (first ++ second) old new n r
append_append {first} {second} {old} {mid} {new} {n} {m} {r} h a b =
    record {
      count = omega (arith, a.count, b.count, both);
      numbers = b.numbers ∙ rw (append_front room a, behind, numbers_of_append first second) (simp append_assoc);
    }
  where
    both : length (first ++ second) ≡ length first + length second
    both = length-append first second

    room : row_width * (n + length first) ≤ length old
    room = omega (arith, h, both)

    behind : drop (row_width * (m + length second)) mid ≡ drop (row_width * (n + length (first ++ second))) old
    behind =
        let p : row_width * (m + length second) ≡ row_width * m + row_width * length second = omega arith in
        let q : row_width * (n + length (first ++ second)) ≡ row_width * (n + length first) + row_width * length second = omega (arith, both) in
        rw (p, q)
        (sym (drop-drop (row_width * length second) (row_width * m) mid)
        ∙ ap (drop (row_width * length second)) (append_behind room a)
        ∙ drop-drop (row_width * length second) (row_width * (n + length first)) old)

-- rows appended to none are the first rows
pub append_rows : {rows : List Row} {old new : List ℤ} {r : ℕ} → Appended rows old new 0 r → rows_of new r ≡ rows
append_rows {rows} {old} {new} {r} a =
    ap (λ t. rows_of t r) a.numbers ∙ rows_of_written rows (drop (row_width * (0 + length rows)) old) r (omega (arith, a.count))
