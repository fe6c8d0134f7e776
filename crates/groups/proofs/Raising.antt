-- Rows raised one after the other, each where it stands.
use mathlib.Core.Path.{◌≡◌, refl, sym, ap, ap₂, ◌∙◌, subst}
use mathlib.Core.List.{List, [], ◌∷◌, ◌++◌, map, map-append}
use Prim.Native.Nat.{ℕ, ◌+◌, ◌-◌, ◌*◌, ◌≤◌, ◌<◌}
use native.Mathlib.Omega.{arith}
use lib.IntN.{ℤ, pos}
use lib.ListN.{length, take, drop, length-append, length-drop, length-map, take-append-drop}
use lib.Seq.{drop-drop}
use Rattle.lists.specs.Lists.{◌∈◌}
use Rattle.model.specs.Quantities.{Subtractable}
use Rattle.model.specs.Bitmapping.{Record}
use Rattle.model.specs.Groups.{raised_by}
use Rattle.model.proofs.Groups.{raised_zero}
use Rattle.sorting.specs.declared.Row.{Row}
use Rattle.sorting.specs.Rows.{row_width, row_at, rows_of, rows_from}
use Rattle.sorting.proofs.Tables.{rows_of_add, row_at_drop, rows_from_none, rows_from_length, numbers_of_rows_of}
use Rattle.normalisation.specs.Merging.{by_displacement, of_displacement}
use Rattle.listing.specs.Listing.{Appended}
use Rattle.listing.proofs.Appending.{append_none, append_length, append_behind, append_append}
use Rattle.references.proofs.Gathering.{row-behind, row_in}
use Rattle.groups.specs.Banks.{raised_row, Raisable}

-- ---- rows n to i of a flat list

module _ (t : List ℤ) (n i : ℕ) (h : n ≤ i) where
  -- row i lies so far behind row n
  row_from_lem : row_at (drop (row_width * n) t) (i - n) ≡ row_at t i
  row_from_lem = let all : n + (i - n) ≡ i = omega arith in row-behind t n (i - n) ∙ ap (row_at t) all

  -- with row i they are one more
  rows_next : rows_from t n (i + 1) ≡ rows_from t n i ++ (row_at t i ∷ [])
  unfolding rows_of
  rows_next =
      let next : (i + 1) - n ≡ (i - n) + 1 = omega arith in
      let rest = drop (row_width * n) t in
      ap (rows_of rest) next ∙ rows_of_add rest (i - n) 1 ∙ ap (λ (r : Row). rows_from t n i ++ (r ∷ [])) (row_at_drop rest (i - n) ∙ row_from_lem)

-- ---- raised rows

-- the record of a raised row is the raised record
pub raised-records : (at : ℤ) (rows : List Row) → map of_displacement (map (raised_row at) rows) ≡ map (raised_by at) (map of_displacement rows)
raised-records at [] = refl
raised-records at (r ∷ rows) = ap {B = List Record} (λ l. raised_by at (of_displacement r) ∷ l) (raised-records at rows)

-- raised by 0 rows are the same
raised-none : (rows : List Row) → map (raised_row (pos 0)) rows ≡ rows
raised-none [] = refl
raised-none (r ∷ rows) = ap₂ (λ (x : Row) (l : List Row). x ∷ l) (ap by_displacement (raised_zero (of_displacement r))) (raised-none rows)

-- the state before row i: rows n to i are raised
pub record Raised (at : ℤ) (old : List ℤ) (n m : ℕ) (new : List ℤ) (i : ℕ) : Type 0 where
  pub from : n ≤ i
  pub upto : i ≤ m
  pub written : Appended (map (raised_row at) (rows_from old n i)) old new n i

module _ {at : ℤ} {old : List ℤ} {n m : ℕ} (o : Raisable at old n m) where
  -- how many rows are raised up to row i
  raised-count : (i : ℕ) → length (map (raised_row at) (rows_from old n i)) ≡ i - n
  raised-count i = length-map (rows_from old n i) (raised_row at) ∙ rows_from_length old n i

  -- nothing is to be done where they are raised by 0
  pub raised-same : at ≡ pos 0 → Appended (map (raised_row at) (rows_from old n m)) old old n m
  raised-same e =
      let rows = rows_from old n m in
      let rest = drop (row_width * n) old in
      let size = rows_from_length old n m in
      let here : row_width * (n + length rows) ≡ row_width * n + row_width * (m - n) = omega (arith, size) in
      let written = numbers_of_rows_of rest (m - n) (omega (arith, length-drop (row_width * n) old, o.order, o.within)) in
      let behind = ap (λ (k : ℕ). drop k old) here ∙ sym (drop-drop (row_width * (m - n)) (row_width * n) old) in
      rw (e, raised-none rows)
      record {
        count = omega (arith, size, o.order);
        numbers = sym
            (ap (λ (l : List ℤ). take (row_width * n) old ++ l) (ap₂ (λ (k l : List ℤ). k ++ l) written behind ∙ take-append-drop (row_width * (m - n)) rest)
            ∙ take-append-drop (row_width * n) old);
      }

  -- at first none is raised
  pub raised-start : Raised at old n m old n
  raised-start =
      record {
        from = omega arith;
        upto = o.order;
        written = rw (rows_from_none old n n (omega arith)) (append_none old n);
      }

  module _ {new : List ℤ} {i : ℕ} (s : Raised at old n m new i) where
    raised-room : row_width * (n + length (map (raised_row at) (rows_from old n i))) ≤ length old
    raised-room = omega (arith, raised-count i, s.from, s.upto, o.within)

    -- the state keeps its length
    pub raised_length : length new ≡ length old
    raised_length = append_length raised-room s.written

    -- at last all are raised
    pub raised_end : m ≤ i → Appended (map (raised_row at) (rows_from old n m)) old new n m
    raised_end h = let all : i ≡ m = omega (arith, h, s.upto) in subst (λ (k : ℕ). Appended (map (raised_row at) (rows_from old n k)) old new n k) all s.written

    module _ (h : i < m) where
      -- row i is as it was
      raised-kept : row_at new i ≡ row_at old i
      raised-kept =
          let here : row_width * (n + length (map (raised_row at) (rows_from old n i))) ≡ row_width * i = omega (arith, raised-count i, s.from) in
          sym (row_at_drop new i) ∙ ap (λ (t : List ℤ). row_at t 0) (append_behind raised-room s.written ∙ ap (λ (k : ℕ). drop k old) here) ∙ row_at_drop old i

      -- it can be raised, and lies in the state
      pub raised-fits : Subtractable (row_at new i).first at
      raised-fits =
          subst (λ (r : Row). Subtractable r.first at) (sym raised-kept)
          (o.fits (row_at old i) (subst (λ (r : Row). r ∈ rows_from old n m) (row_from_lem old n i s.from) (row_in (drop (row_width * n) old) (i - n) (m - n) (omega (arith, h, s.from)))))

      pub raised-within : row_width * i + row_width ≤ length new
      raised-within = omega (arith, h, o.within, raised_length)

      -- once it is, the next row follows
      pub raised-next : {new' : List ℤ} {j : ℕ} → Appended (raised_row at (row_at new i) ∷ []) new new' i j → Raised at old n m new' j
      raised-next {new'} {j} a =
          let one : j ≡ i + 1 = a.count in
          let added : Appended (raised_row at (row_at old i) ∷ []) new new' i j = subst (λ (r : Row). Appended (raised_row at r ∷ []) new new' i j) raised-kept a in
          let rows = rows_from old n i in
          let more = map-append (raised_row at) rows (row_at old i ∷ []) in
          let all : map (raised_row at) (rows_from old n j) ≡ map (raised_row at) rows ++ (raised_row at (row_at old i) ∷ []) =
          ap (map (raised_row at)) (ap (rows_from old n) one ∙ rows_next old n i s.from) ∙ more in
          let size = length-append (map (raised_row at) rows) (raised_row at (row_at old i) ∷ []) in
          record {
            from = omega (arith, one, s.from);
            upto = omega (arith, one, h);
            written = subst (λ (rows : List Row). Appended rows old new' n j) (sym all)
                (append_append (omega (arith, size, raised-count i, s.from, h, o.within)) s.written added);
          }
