-- The rows that a reference has of its owner's list, gathered record by record behind rows that hold the list.
use mathlib.Core.Path.{◌≡◌, refl, sym, ap, subst, ◌∙◌}
use mathlib.Core.List.Memᴰ
use mathlib.Core.List.{List, [], ◌∷◌, ◌++◌, map, append-nil, append_assoc, flat_map}
use Prim.Native.Nat.{ℕ, zero, suc, ◌+◌, ◌-◌, ◌*◌, ◌≤◌, ◌<◌}
use native.Mathlib.Nat.{add-zero}
use native.Mathlib.Omega.{arith}
use lib.IntN.{ℤ, pos}
use lib.ListN.{length, get_or, take, drop, length-append}
use lib.Seq.{get_or-take, get_or-drop, take_at, length-take-le}
use Rattle.lists.specs.Lists.{◌∈◌}
use Rattle.lists.proofs.Membership.{map_in}
use Rattle.model.specs.Bitmapping.{Record}
use Rattle.sorting.specs.declared.Row.{Row}
use Rattle.sorting.specs.Rows.{row_width, row_at, rows_of, rows_from, numbers_of}
use Rattle.sorting.proofs.Tables.{rows_of_add, rows_from_more, rows_from_none, rows_from_start}
use Rattle.normalisation.specs.Merging.{of_displacement}
use Rattle.listing.specs.Listing.{Appended}
use Rattle.listing.proofs.Appending.{append_none, append_append, append_length}
use Rattle.references.specs.References.{Reference, SmallRecord, records_at, Cuttable, cut_row, cut_rows}
use Rattle.references.proofs.Cutting.{cut-row-few}

-- ---- the records of a list that begins with row p

-- record i of it, in row p + i
abbrev pub record_at : List ℤ → ℕ → ℕ → Record
record_at t p i = of_displacement (row_at t (p + i))

-- of the n records of it those from record i on
abbrev pub records_from : List ℤ → ℕ → ℕ → ℕ → List Record
records_from t p i n = map of_displacement (rows_from (drop (row_width * p) t) i n)

-- row i behind row p is row p + i
pub row-behind : (t : List ℤ) (p i : ℕ) → row_at (drop (row_width * p) t) i ≡ row_at t (p + i)
row-behind t p i =
    let first : row_width * p + row_width * i ≡ row_width * (p + i) = omega arith in
    let second : row_width * p + (row_width * i + 1) ≡ row_width * (p + i) + 1 = omega arith in
    let third : row_width * p + (row_width * i + 2) ≡ row_width * (p + i) + 2 = omega arith in
    rw (get_or-drop (row_width * p) t (row_width * i) (pos 0), get_or-drop (row_width * p) t (row_width * i + 1) (pos 0), get_or-drop (row_width * p) t (row_width * i + 2) (pos 0), first, second, third) refl

-- row i is one of the first n
pub row_in : (t : List ℤ) (i n : ℕ) → i < n → row_at t i ∈ rows_of t n
row_in t i n h =
    let all : i + (n - i) ≡ n = omega arith in
    rw (← all, rows_of_add t i (n - i), rows_from_more t i n h) (Memᴰ.append_right (rows_of t i) (Memᴰ.head refl))

module _ (t : List ℤ) (p i n : ℕ) where
  -- those from record i on are record i and those behind it
  records_from-more : i < n → records_from t p i n ≡ record_at t p i ∷ records_from t p (i + 1) n
  records_from-more h =
      ap (map of_displacement) (rows_from_more (drop (row_width * p) t) i n h)
      ∙ ap (λ (r : Row). of_displacement r ∷ records_from t p (i + 1) n) (row-behind t p i)

  -- past the last record there is none
  records_from-none : n ≤ i → records_from t p i n ≡ []
  records_from-none h = ap (map of_displacement) (rows_from_none (drop (row_width * p) t) i n h)

  -- record i is one of the n
  pub record_at_in : i < n → record_at t p i ∈ records_at t p n
  record_at_in h = subst (λ (r : Row). of_displacement r ∈ records_at t p n) (row-behind t p i) (map_in of_displacement (row_in (drop (row_width * p) t) i n h))

-- ---- rows behind which others are appended

-- a row before row n stays as it was
pub row_kept : {rows : List Row} {old new : List ℤ} {n m : ℕ} (p : ℕ) → row_width * n ≤ length old → Appended rows old new n m → p < n → row_at new p ≡ row_at old p
row_kept {rows} {old} {new} {n} p h a k =
    rw (kept (row_width * p) (omega (arith, k)), kept (row_width * p + 1) (omega (arith, k)), kept (row_width * p + 2) (omega (arith, k))) refl
  where
    front : take (row_width * n) new ≡ take (row_width * n) old
    front = ap (take (row_width * n)) a.numbers ∙ take_at (take (row_width * n) old) (numbers_of rows ++ drop (row_width * (n + length rows)) old) (row_width * n) (length-take-le (row_width * n) old h)

    kept : (j : ℕ) → j < row_width * n → get_or new j (pos 0) ≡ get_or old j (pos 0)
    kept j l = sym (get_or-take (row_width * n) new j (pos 0) l) ∙ ap (λ (t : List ℤ). get_or t j (pos 0)) front ∙ get_or-take (row_width * n) old j (pos 0) l

-- ---- gathering

-- the state before record i: the rows that the records before it give are written, and with those of the records from i on they are all
pub record Gathering (f : Reference) (old : List ℤ) (row count n : ℕ) (new : List ℤ) (m i : ℕ) : Type 0 where
  pub upto : i ≤ count
  pub done : List Row
  pub few : length done ≤ i
  pub rest : done ++ cut_rows f (records_from old row i count) ≡ cut_rows f (records_at old row count)
  pub written : Appended done old new n m

-- at first nothing is written
pub gathering-start : (f : Reference) (old : List ℤ) (row count n : ℕ) → Gathering f old row count n old n 0
gathering-start f old row count n =
    record {
      upto = omega arith;
      done = [];
      few = omega arith;
      rest = ap (λ (l : List Row). cut_rows f (map of_displacement l)) (rows_from_start (drop (row_width * row) old) count);
      written = append_none old n;
    }

module _ {f : Reference} {first last : ℤ} {old : List ℤ} {row count n : ℕ} {new : List ℤ} {m i : ℕ} (cuttable : Cuttable f first last old row count n)
    (s : Gathering f old row count n new m i)
  where
    -- at last all is
    pub gathering_end : count ≤ i → Appended (cut_rows f (records_at old row count)) old new n m
    unfolding cut_rows flat_map
    gathering_end h =
        let all : s.done ≡ cut_rows f (records_at old row count) =
        sym (append-nil s.done) ∙ ap (λ (l : List Record). s.done ++ cut_rows f l) (sym (records_from-none old row i count h)) ∙ s.rest in
        rw (← all) s.written

    -- the table keeps its length
    pub gathering_length : length new ≡ length old
    gathering_length = append_length (omega (arith, s.upto, s.few, cuttable.room)) s.written

    module _ (h : i < count) where
      -- the record in row row + i is that of the table that gathering started from
      gathering_record : row_at new (row + i) ≡ row_at old (row + i)
      gathering_record = row_kept (row + i) (omega (arith, cuttable.room)) s.written (omega (arith, h, cuttable.before))

      -- it can be cut, and there is room for its row
      pub gathering-within : SmallRecord (record_at new row i)
      gathering-within =
          subst (λ (r : Row). SmallRecord (of_displacement r)) (sym gathering_record)
          (cuttable.within (record_at old row i) (record_at_in old row i count h))

      pub gathering-before : row + i < m
      gathering-before = omega (arith, h, cuttable.before, s.written.count)

      pub gathering-room : row_width * m + row_width ≤ length new
      gathering-room = omega (arith, h, cuttable.room, s.few, s.written.count, gathering_length)

      -- once its row is written, the next record follows
      gathering-more : {new' : List ℤ} {m' : ℕ} → Appended (cut_row f (record_at old row i)) new new' m m' → Gathering f old row count n new' m' (i + 1)
      unfolding cut_rows flat_map
      gathering-more a =
          let rows = cut_row f (record_at old row i) in
          let size = length-append s.done rows in
          let one = cut-row-few f (record_at old row i) in
          record {
            upto = omega (arith, h);
            done = s.done ++ rows;
            few = omega (arith, s.few, size, one);
            rest = append_assoc s.done rows (cut_rows f (records_from old row (i + 1) count))
                ∙ ap (λ (l : List Record). s.done ++ cut_rows f l) (sym (records_from-more old row i count h)) ∙ s.rest;
            written = append_append (omega (arith, h, cuttable.room, s.few, size, one)) s.written a;
          }

      pub gathering-next : {new' : List ℤ} {m' : ℕ} → Appended (cut_row f (record_at new row i)) new new' m m' → Gathering f old row count n new' m' (i + 1)
      gathering-next {new'} {m'} a = gathering-more (subst (λ (r : Row). Appended (cut_row f (of_displacement r)) new new' m m') gathering_record a)

-- k records of which the reference has nothing are passed over
pub gathering_skip : {f : Reference} {first last : ℤ} {old : List ℤ} {row count n : ℕ} {new : List ℤ} {m i : ℕ} → Cuttable f first last old row count n
    → Gathering f old row count n new m i → (k : ℕ) → i + k ≤ count → ((j : ℕ) → i ≤ j → j < i + k → cut_row f (record_at old row j) ≡ [])
    → Gathering f old row count n new m (i + k)
gathering_skip {f = f} {old = old} {row = row} {count = count} {n = n} {new = new} {m = m} {i = i} c s zero h none =
    subst (Gathering f old row count n new m) (sym (add-zero i)) s
gathering_skip {f = f} {old = old} {row = row} {count = count} {n = n} {new = new} {m = m} {i = i} c s (suc k) h none =
    let before = gathering_skip c s k (omega (arith, h)) (λ j p q. none j p (omega (arith, q))) in
    let next : (i + k) + 1 ≡ i + suc k = omega arith in
    subst (Gathering f old row count n new m) next
    (gathering-more c before (omega (arith, h)) (rw (none (i + k) (omega arith) (omega arith)) (append_none new m)))
