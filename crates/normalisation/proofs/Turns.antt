-- The states between two turns of the loops: of those that merge n rows by displacement of t, into rows by first or where they stand, and of the
-- one that writes n rows by first of t as records. They write to the front of a list that was `old`.
use mathlib.Core.Path.{◌≡◌, refl, sym, ap, ◌∙◌}
use mathlib.Core.Bool.{true, false}
use mathlib.Core.List.Memᴰ
use mathlib.Core.List.{List, [], ◌∷◌, ◌++◌, map, map-append, append_assoc}
use mathlib.Core.Logic.{◌⊎◌, inl, inr}
use Prim.Native.Nat.{ℕ, ◌+◌, ◌-◌, ◌*◌, ◌^◌, ◌≤◌, ◌<◌}
use native.Mathlib.Omega.{arith}
use lib.ListN.{length, take, drop, length-append, length-map, take-append-drop}
use lib.IntN.{ℤ, pos}
use lib.Signed.{◌<ℤ◌}
use Rattle.integers.specs.Integers.{max_z}
use Rattle.integers.proofs.Linear.{ints}
use Rattle.integers.proofs.Tests.{max_is}
use Rattle.lists.specs.Lists.{◌∈◌}
use Rattle.lists.proofs.Membership.{map_in}
use Rattle.sorting.specs.declared.Row.{Row}
use Rattle.sorting.specs.Rows.{row_width, row_at, rows_of, rows_from, numbers_of}
use Rattle.sorting.proofs.Tables.{rows_of_length, rows_of_add, numbers_of_rows_of, row_at_drop, rows_from_more, rows_from_none, rows_from_start, front-behind, front-more}
use Rattle.model.specs.Bitmapping.{Record}
use Rattle.model.specs.Runs.{touch, hull}
use Rattle.model.specs.Calls as calls
use Rattle.model.proofs.Records.{hull_left}
use Rattle.normalisation.specs.Merging.{by_displacement, of_displacement, of_first, as_listed, displaced_of, SmallLast, AllSmallLast, merge_into, merged, Apart}
use Rattle.normalisation.proofs.Sorted.{rows_back}

-- ---- merging

-- the hull of two small records is small
hull-small : {r s : Record} → SmallLast r → SmallLast s → SmallLast (hull r s)
unfolding hull
hull-small {r} {s} p q =
    record { full = omega (arith, ints, p.full, (hull_left r s).first, (hull_left r s).last); high = go (max_is r.last s.last).2 }
  where
    go : (max_z r.last s.last ≡ r.last) ⊎ (max_z r.last s.last ≡ s.last) → max_z r.last s.last <ℤ pos (2 ^ 62)
    go (inl e) = rw e p.high
    go (inr e) = rw e q.high

-- the first i + 1 rows are the first i and row i
rows_of_next : (t : List ℤ) (i : ℕ) → rows_of t (i + 1) ≡ rows_of t i ++ (row_at t i ∷ [])
unfolding rows_of
rows_of_next t i = rows_of_add t i 1 ∙ rw (row_at_drop t i) refl

-- the n rows are those before row i, row i, and those behind it
rows_of_split : (t : List ℤ) (n i : ℕ) → i < n → rows_of t n ≡ rows_of t i ++ (row_at t i ∷ rows_from t (i + 1) n)
rows_of_split t n i h =
    let e : n ≡ i + (n - i) = omega arith in
    ap (rows_of t) e ∙ rows_of_add t i (n - i) ∙ ap (λ (l : List Row). rows_of t i ++ l) (rows_from_more t i n h)

-- so that the record of row i is small where all are
pub row_small : (t : List ℤ) (n i : ℕ) → i < n → AllSmallLast (displaced_of t n) → SmallLast (of_displacement (row_at t i))
row_small t n i h all =
    let m : row_at t i ∈ rows_of t n = rw (rows_of_split t n i h) (Memᴰ.append_right (rows_of t i) (Memᴰ.head refl)) in
    all (of_displacement (row_at t i)) (map_in of_displacement m)

-- the list with a row stored behind k rows
abbrev stored : List ℤ → ℕ → Row → List ℤ
stored out k r = take (row_width * k) out ++ (numbers_of (r ∷ []) ++ drop (row_width * k + row_width) out)

module _ (t : List ℤ) (n : ℕ) where
  -- what the rows from i on give, merged into the current record
  abbrev left : Record → ℕ → List Record
  left current i = merge_into current (map of_displacement (rows_from t i n))

  -- where the current record touches the next, they are joined
  left_joined : (current : Record) (i : ℕ) → i < n → touch current (of_displacement (row_at t i)) ≡ true
      → left current i ≡ left (hull current (of_displacement (row_at t i))) (i + 1)
  unfolding merge_into
  left_joined current i h e = rw (rows_from_more t i n h, e) refl

  -- where it does not, it is finished
  left_apart : (current : Record) (i : ℕ) → i < n → touch current (of_displacement (row_at t i)) ≡ false
      → left current i ≡ current ∷ left (of_displacement (row_at t i)) (i + 1)
  unfolding merge_into
  left_apart current i h e = rw (rows_from_more t i n h, e) refl

  -- behind the last row it is all that is left
  left_last : (current : Record) (i : ℕ) → n ≤ i → left current i ≡ current ∷ []
  unfolding merge_into
  left_last current i h = rw (rows_from_none t i n h) refl

-- f says as which rows the records are written
module _ (f : Record → Row) (t : List ℤ) (n : ℕ) (old : List ℤ) where
  -- i rows are read and k records written; the current record is what the rest is merged into
  pub record Pass (out : List ℤ) (current : Row) (i k : ℕ) : Type 0 where
    pub read : i ≤ n
    pub fewer : k < i
    pub written : List Record
    pub size : length written ≡ k
    pub front : out ≡ numbers_of (map f written) ++ drop (row_width * k) old
    pub rest : merged (displaced_of t n) ≡ written ++ left t n (of_displacement current) i
    pub small : SmallLast (of_displacement current)

  -- no row gives no record
  pub pass_none : n ≡ 0 → (0 ≡ length (merged (displaced_of t n))) × (old ≡ numbers_of (map f (merged (displaced_of t n))) ++ old)
  unfolding rows_of numbers_of merged
  pass_none e = rw e (refl, refl)

  -- the first record is the current one before the others are read
  pub pass_start : 0 < n → AllSmallLast (displaced_of t n) → Pass old (row_at t 0) 1 0
  unfolding numbers_of merged
  pass_start h all =
      record {
        read = omega arith;
        fewer = omega arith;
        written = [];
        size = refl;
        front = refl;
        rest = rw (← rows_from_start t n, rows_from_more t 0 n h) refl;
        small = row_small t n 0 h all;
      }

module _ {f : Record → Row} {t : List ℤ} {n : ℕ} {old out : List ℤ} {current : Row} {i k : ℕ} (m : Pass f t n old out current i k) where
  -- how many rows the written records are
  written-rows : length (map f m.written) ≡ k
  written-rows = length-map m.written f ∙ m.size

  -- the current record is written
  pass_stored : stored out k (f (of_displacement current))
      ≡ numbers_of (map f (m.written ++ (of_displacement current ∷ []))) ++ drop (row_width * (k + 1)) old
  pass_stored =
      rw (m.front, map-append f m.written (of_displacement current ∷ []))
      (front-more (map f m.written) old k (f (of_displacement current)) written-rows)

  -- the next record touches the current one and is joined with it
  pub pass_joined : i < n → AllSmallLast (displaced_of t n) → touch (of_displacement current) (of_displacement (row_at t i)) ≡ true
      → Pass f t n old out (by_displacement (hull (of_displacement current) (of_displacement (row_at t i)))) (i + 1) k
  pass_joined h all e =
      record {
        read = omega arith;
        fewer = omega (arith, m.fewer);
        written = m.written;
        size = m.size;
        front = m.front;
        rest = m.rest ∙ ap (λ (l : List Record). m.written ++ l) (left_joined t n (of_displacement current) i h e);
        small = hull-small m.small (row_small t n i h all);
      }

  -- the next record does not touch the current one, which is written
  pub pass_apart : i < n → AllSmallLast (displaced_of t n) → touch (of_displacement current) (of_displacement (row_at t i)) ≡ false
      → Pass f t n old (stored out k (f (of_displacement current))) (row_at t i) (i + 1) (k + 1)
  pass_apart h all e =
      record {
        read = omega arith;
        fewer = omega (arith, m.fewer);
        written = m.written ++ (of_displacement current ∷ []);
        size = length-append m.written (of_displacement current ∷ []) ∙ omega (arith, m.size);
        front = pass_stored;
        rest =
            m.rest ∙ ap (λ (l : List Record). m.written ++ l) (left_apart t n (of_displacement current) i h e) ∙
            sym (append_assoc m.written (of_displacement current ∷ []) (left t n (of_displacement (row_at t i)) (i + 1)));
        small = row_small t n i h all;
      }

  -- no row is left: the current record is the last
  pass_all : n ≤ i → merged (displaced_of t n) ≡ m.written ++ (of_displacement current ∷ [])
  pass_all h = m.rest ∙ ap (λ (l : List Record). m.written ++ l) (left_last t n (of_displacement current) i h)

  -- it is counted
  pub pass_count : n ≤ i → k + 1 ≡ length (merged (displaced_of t n))
  pass_count h = rw (pass_all h) (sym (length-append m.written (of_displacement current ∷ []) ∙ omega (arith, m.size)))

  -- and once it is written, all are
  pub pass_end : n ≤ i → stored out k (f (of_displacement current)) ≡ numbers_of (map f (merged (displaced_of t n))) ++ drop (row_width * (k + 1)) old
  pass_end h = rw (pass_all h) pass_stored

  -- the next row is as it was
  pub pass_next : row_at out i ≡ row_at old i
  pass_next =
      sym (row_at_drop out i)
      ∙ ap (λ (l : List ℤ). row_at l 0) (ap (drop (row_width * i)) m.front ∙ front-behind (map f m.written) old k i written-rows (omega (arith, m.fewer)))
      ∙ row_at_drop old i

-- ---- rows that do not touch the next

-- no row stands in front of the first
pub apart-start : (t : List ℤ) (n : ℕ) → 0 < n → Apart t n 0
unfolding rows_of merged
apart-start t n h = record { inside = h; rest = rw (← rows_from_start t n, rows_from_more t 0 n h) refl }

module _ {t : List ℤ} {n k : ℕ} (a : Apart t n k) where
  -- one row more does not touch the next
  pub apart_more : k + 1 < n → touch (of_displacement (row_at t k)) (of_displacement (row_at t (k + 1))) ≡ false → Apart t n (k + 1)
  apart_more h e =
      let last = of_displacement (row_at t k) in
      let rest = left t n (of_displacement (row_at t (k + 1))) (k + 1 + 1) in
      let more : displaced_of t (k + 1) ≡ displaced_of t k ++ (last ∷ []) =
      ap (map of_displacement) (rows_of_next t k) ∙ map-append of_displacement (rows_of t k) (row_at t k ∷ []) in
      record {
        inside = h;
        rest =
            a.rest ∙ ap (λ (l : List Record). displaced_of t k ++ l) (left_apart t n last (k + 1) h e) ∙ sym (append_assoc (displaced_of t k) (last ∷ []) rest)
            ∙ ap (λ (l : List Record). l ++ rest) (sym more);
      }

  -- the rows in front of row k are written where they stand
  pub apart_pass : row_width * n ≤ length t → AllSmallLast (displaced_of t n) → Pass by_displacement t n t t (row_at t k) (k + 1) k
  apart_pass fits all =
      record {
        read = omega (arith, a.inside);
        fewer = omega arith;
        written = displaced_of t k;
        size = length-map (rows_of t k) of_displacement ∙ rows_of_length t k;
        front = sym (rw (rows_back (rows_of t k), numbers_of_rows_of t k (omega (arith, a.inside))) (take-append-drop (row_width * k) t));
        rest = a.rest;
        small = row_small t n k a.inside all;
      }

-- ---- writing

-- a row by first as a row of a list
abbrev pub listed_row : Row → Row
listed_row r = as_listed (of_first r)

-- the first i of the rows of t are written
pub record Listed (t : List ℤ) (n : ℕ) (old out : List ℤ) (i : ℕ) : Type 0 where
  pub read : i ≤ n
  pub front : out ≡ numbers_of (map listed_row (rows_of t i)) ++ drop (row_width * i) old

module _ (t : List ℤ) (n : ℕ) (old : List ℤ) where
  -- none is written
  pub listed_start : Listed t n old old 0
  unfolding rows_of numbers_of
  listed_start = record { read = omega arith; front = refl }

module _ {t : List ℤ} {n : ℕ} {old out : List ℤ} {i : ℕ} (m : Listed t n old out i) where
  -- how many rows they are
  listed-rows : length (map listed_row (rows_of t i)) ≡ i
  listed-rows = length-map (rows_of t i) listed_row ∙ rows_of_length t i

  -- one row more
  pub listed_more : i < n → Listed t n old (stored out i (listed_row (row_at t i))) (i + 1)
  listed_more h =
      record {
        read = omega arith;
        front =
            rw (m.front, rows_of_next t i, map-append listed_row (rows_of t i) (row_at t i ∷ []))
            (front-more (map listed_row (rows_of t i)) old i (listed_row (row_at t i)) listed-rows);
      }

-- the numbers of the rows of a list are those of its records
listed-numbers : (l : List Row) → numbers_of (map listed_row l) ≡ calls.numbers_of (map of_first l)
unfolding numbers_of calls.numbers_of
listed-numbers [] = refl
listed-numbers (r ∷ l) = ap {B = List ℤ} (λ k. r.first ∷ r.third ∷ r.second ∷ k) (listed-numbers l)

-- all rows are written
pub listed_end : {t : List ℤ} {n : ℕ} {old out : List ℤ} {i : ℕ} → Listed t n old out i → n ≤ i
    → out ≡ calls.numbers_of (map of_first (rows_of t n)) ++ drop (row_width * n) old
listed_end {t} {n} {i} m h = let e : i ≡ n = omega (arith, m.read) in m.front ∙ rw (e, listed-numbers (rows_of t n)) refl
