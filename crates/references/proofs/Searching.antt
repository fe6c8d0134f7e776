-- A list by displacement, sorted: the search for the first row whose displacement is not below a number, and the rows that a reference has nothing of.
use mathlib.Core.Path.{◌≡◌, sym, ap, subst, ◌∙◌}
use mathlib.Core.Bool.{not}
use mathlib.Core.List.{List, [], ◌∷◌, ◌++◌, map}
use Prim.Native.Nat.{ℕ, ◌+◌, ◌-◌, ◌≤◌, ◌<◌, ◌*◌}
use native.Mathlib.Nat.{zero-add}
use native.Mathlib.Omega.{arith}
use lib.Dec.{T}
use lib.IntN.{ℤ, pos, ◌-ℤ◌}
use lib.Signed.{◌≤ℤ◌, ◌<ℤ◌}
use lib.ListN.{drop}
use Rattle.integers.proofs.Linear.{ints, diff}
use Rattle.integers.proofs.Tests.{test?, of_test}
use Rattle.lists.specs.Lists.{◌∈◌}
use Rattle.model.specs.Bitmapping.{Record, Has}
use Rattle.model.specs.Runs.{Run, Joins, empty}
use Rattle.model.proofs.Steps.{empty_not}
use Rattle.sorting.specs.declared.Row.{Row}
use Rattle.sorting.specs.Rows.{row_width, row_at, rows_of, rows_from, le_row, Ascending, more}
use Rattle.sorting.proofs.Order.{le_row_says, le_row_refl}
use Rattle.sorting.proofs.Sorting.{first_of_all}
use Rattle.sorting.proofs.Tables.{rows_of_add, rows_from_more}
use Rattle.normalisation.specs.Merging.{by_displacement}
use Rattle.normalisation.proofs.Sorted.{rows_back}
use Rattle.listing.specs.Listing.{Appended}
use Rattle.references.specs.References.{Reference, last_root, records_at, cut_run, cut_row, cut_rows, least_of, past_of, Parted, Cuttable}
use Rattle.references.proofs.Bringing.{joins-roots}
use Rattle.references.proofs.Cutting.{run_record_joins, cut_has, cut-none}
use Rattle.references.proofs.Gathering.{record_at, row-behind, row_in, record_at_in, Gathering, gathering-start, gathering_end, gathering_skip}

-- ---- rows in order

-- what stands behind some rows of an ascending list is ascending
ascending-behind : (k : List Row) {l : List Row} → Ascending (k ++ l) → Ascending l
ascending-behind [] a = a
ascending-behind (x ∷ k) (more h a) = ascending-behind k a

ascending_head : {x : Row} {l : List Row} → Ascending (x ∷ l) → (z : Row) → z ∈ (x ∷ l) → T (le_row x z)
ascending_head {x} {l} (more h a) = first_of_all x x l (le_row_refl x) h

-- a row further on has no lower first number
ascending-at : (t : List ℤ) (n i j : ℕ) → Ascending (rows_of t n) → i ≤ j → j < n → (row_at t i).first ≤ℤ (row_at t j).first
ascending-at t n i j a le lt =
    let all : i + (n - i) ≡ n = omega arith in
    let split : rows_of t n ≡ rows_of t i ++ rows_from t i n = ap (rows_of t) (sym all) ∙ rows_of_add t i (n - i) in
    let at : i + (j - i) ≡ j = omega arith in
    let row : row_at (drop (row_width * i) t) (j - i) ≡ row_at t j = row-behind t i (j - i) ∙ ap (row_at t) at in
    let here : row_at t j ∈ rows_from t i n = subst (λ (r : Row). r ∈ rows_from t i n) row (row_in (drop (row_width * i) t) (j - i) (n - i) (omega arith)) in
    let more = rows_from_more t i n (omega arith) in
    let tail = ascending-behind (rows_of t i) (subst Ascending split a) in
    (le_row_says (row_at t i) (row_at t j) (ascending_head (subst Ascending more tail) (row_at t j) (subst (λ (l : List Row). row_at t j ∈ l) more here))).first

-- ---- the search

module _ (t : List ℤ) (row count : ℕ) (a : Ascending (map by_displacement (records_at t row count))) where
  -- the displacements do not fall
  rising : (i j : ℕ) → i ≤ j → j < count → (row_at t (row + i)).first ≤ℤ (row_at t (row + j)).first
  rising i j le lt =
      let l = drop (row_width * row) t in
      omega (
        arith,
        ints,
        ap (λ (r : Row). r.first) (row-behind t row i),
        ap (λ (r : Row). r.first) (row-behind t row j),
        ascending-at l count i j (subst Ascending (rows_back (rows_of l count)) a) le lt,
      )

  module _ {d : ℤ} {low high middle : ℕ} (p : Parted t row count d low high) (from : low ≤ middle) (to : middle < high) where
    -- a row whose displacement is below d, and those in front of it
    pub parted_below : (row_at t (row + middle)).first <ℤ d → Parted t row count d (middle + 1) high
    parted_below h =
        record {
          order = omega arith;
          within = p.within;
          below = λ i k. omega (arith, ints, h, rising i middle (omega arith) (omega (arith, p.within)));
          above = p.above;
        }

    -- a row whose displacement is not, and those behind it
    pub parted_above : d ≤ℤ (row_at t (row + middle)).first → Parted t row count d low middle
    parted_above h =
        record {
          order = from;
          within = omega (arith, p.within);
          below = p.below;
          above = λ i k l. omega (arith, ints, h, rising middle i k l);
        }

-- at first nothing is known
pub parted_start : (t : List ℤ) (row count : ℕ) (d : ℤ) → Parted t row count d 0 count
parted_start t row count d =
    record { order = omega arith; within = omega arith; below = λ i h. absurd (omega (arith, h)); above = λ i h k. absurd (omega (arith, h, k)) }

-- ---- displacements that do not reach

module _ (f : Reference) (q : Record) {first last : ℤ} (inside : (first ≤ℤ q.first) × (q.last ≤ℤ last)) where
  -- a bit of the record that the reference takes: its displacement is that of a root bit from first to last and a bit address that the reference takes of the owner
  cut-displacement : {x b y : ℤ} → Has q x y → Joins f.run y b → (least_of f first ≤ℤ q.displacement) × (q.displacement <ℤ past_of f last)
  cut-displacement {x} {b} {y} k j =
      let roots = joins-roots f.run j in
      let end = last_root f.run in
      let apart = k.apart in
      let at = diff x y in
      let before = diff f.run.root (pos 1) in (
        omega (arith, ints, inside.0, k.above, roots.1, diff first end),
        omega (arith, ints, inside.1, k.below, roots.0, diff last (f.run.root -ℤ pos 1)),
      )

  -- where there is no such bit, the reference has nothing of the record
  cut_unless : ((least_of f first ≤ℤ q.displacement) × (q.displacement <ℤ past_of f last) → ⊥) → cut_row f q ≡ []
  cut_unless none =
      cut-none f q
      (of_test (test? (empty r)) (λ t.
      let (y, k, j) = (cut_has f q r.root r.low).0 ((run_record_joins r r.root r.low).1 (start t)) in
      none (cut-displacement k j)))
    where
      r : Run
      r = cut_run f q

      start : T (not (empty r)) → Joins r r.root r.low
      start t =
          record {
            inside = record { above = omega (arith, ints); below = empty_not r t };
            level = omega (arith, ints, diff r.root r.root, diff r.low r.low);
          }

  -- so it has nothing of one whose displacement is below the least
  pub cut-before : q.displacement <ℤ least_of f first → cut_row f q ≡ []
  cut-before h = cut_unless (λ k. omega (arith, ints, h, k.0))

  -- nor of one whose displacement is past all of them
  pub cut-past : past_of f last ≤ℤ q.displacement → cut_row f q ≡ []
  cut-past h = cut_unless (λ k. omega (arith, ints, h, k.1))

-- ---- a list gathered

module _ {f : Reference} {first last : ℤ} {old : List ℤ} {row count n : ℕ} (c : Cuttable f first last old row count n) where
  root-bits : (j : ℕ) → j < count → (first ≤ℤ (record_at old row j).first) × ((record_at old row j).last ≤ℤ last)
  root-bits j h = c.inside (record_at old row j) (record_at_in old row j count h)

  -- the rows in front of the first whose displacement reaches are passed over
  pub gathering-from : {i : ℕ} → Parted old row count (least_of f first) i i → Gathering f old row count n old n i
  gathering-from {i} p =
      subst (Gathering f old row count n old n) (zero-add i)
      (gathering_skip c (gathering-start f old row count n) i (omega (arith, p.within)) (λ j k l.
      cut-before f (record_at old row j) (root-bits j (omega (arith, l, p.within))) (p.below j (omega (arith, l)))))

  -- and so are those behind the last
  pub gathering_upto : {new : List ℤ} {m i end : ℕ} → Gathering f old row count n new m i → Parted old row count (past_of f last) end end → end ≤ i
      → Appended (cut_rows f (records_at old row count)) old new n m
  gathering_upto {i = i} s p h =
      gathering_end c
      (gathering_skip c s (count - i) (omega (arith, s.upto)) (λ j k l.
      let low : j < count = omega (arith, l, s.upto) in
      cut-past f (record_at old row j) (root-bits j low) (p.above j (omega (arith, h, k)) low)))
      (omega arith)
