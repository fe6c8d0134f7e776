-- What the steps of normalisation leave, from flat list to flat list.
use mathlib.Core.Path.{◌≡◌, refl, sym, ap, ◌∙◌, subst}
use mathlib.Core.List.Memᴰ
use mathlib.Core.List.{List, [], ◌∷◌, ◌++◌, map}
use mathlib.Core.Logic.{⊎_elim}
use Prim.Native.Nat.{ℕ, suc, ◌+◌, ◌-◌, ◌*◌, ◌≤◌}
use native.Mathlib.Omega.{arith}
use lib.ListN.{length, take, drop, length-map}
use lib.Seq.{take_at}
use lib.IntN.{ℤ}
use Rattle.lists.specs.Lists.{◌∈◌}
use Rattle.lists.proofs.Membership.{map_in, map_out}
use Rattle.sorting.specs.declared.Row.{Row}
use Rattle.sorting.specs.Rows.{row_width, rows_of, rows_from, numbers_of, sorted}
use Rattle.sorting.proofs.Sorting.{sorted_members, sorted_length}
use Rattle.sorting.proofs.Tables.{rows_of_length, rows_of_written, rows_of_add, front_rest}
use Rattle.model.specs.Bitmapping.{Record}
use Rattle.model.specs.Runs.{hull, normal}
use Rattle.model.specs.Calls as calls
use Rattle.normalisation.specs.Merging.{by_displacement, of_displacement, by_first, of_first, displaced_of, SmallLast, AllSmallLast, merge_into, merged, sorted_by_displacement, sorted_by_first, fast_normal}
use Rattle.normalisation.proofs.Sorted.{rows_back, records_back, by-displacement_length}
use Rattle.normalisation.proofs.Merging.{merge_into_cases, fast-normal, merged-normal}

-- ---- lengths

-- merging makes no list longer
merge_into_length : (r : Record) (l : List Record) → length (merge_into r l) ≤ suc (length l)
unfolding merge_into
merge_into_length r [] = omega arith
merge_into_length r (s ∷ t) =
    merge_into_cases (λ l. length l ≤ suc (suc (length t))) r s t (λ k. omega (arith, merge_into_length (hull r s) t)) (λ k. omega (arith, merge_into_length s t))

merged_length : (l : List Record) → length (merged l) ≤ length l
unfolding merged
merged_length [] = omega arith
merged_length (r ∷ l) = merge_into_length r l

-- merging n rows gives n records at most
pub merged-rows : (t : List ℤ) (n : ℕ) → length (merged (displaced_of t n)) ≤ n
merged-rows t n = omega (arith, merged_length (displaced_of t n), length-map (rows_of t n) of_displacement, rows_of_length t n)

-- sorting keeps how many records there are
by-first_length : (l : List Record) → length (sorted_by_first l) ≡ length l
unfolding sorted_by_first
by-first_length l = length-map (sorted (map by_first l)) of_first ∙ sorted_length (map by_first l) ∙ length-map l by_first

-- a record has three numbers
pub numbers_length : (l : List Record) → length (calls.numbers_of l) ≡ row_width * length l
unfolding calls.numbers_of
numbers_length [] = refl
numbers_length (r ∷ l) = let h = numbers_length l in omega arith

-- ---- rows sorted

-- sorting rows by displacement sorts their records
records-sorted : (t : List ℤ) (n : ℕ) → displaced_of (numbers_of (sorted (rows_of t n)) ++ drop (row_width * n) t) n ≡ sorted_by_displacement (displaced_of t n)
unfolding sorted_by_displacement
records-sorted t n =
    rw (rows_of_written (sorted (rows_of t n)) (drop (row_width * n) t) n (sorted_length (rows_of t n) ∙ rows_of_length t n), rows_back (rows_of t n)) refl

module _ (t : List ℤ) (k n : ℕ) (h : k ≤ n) where
  -- the first k rows, and the rest
  all : n ≡ k + (n - k)
  all = omega arith

  -- of n rows of which the first k are sorted, each was one of the n rows before
  sorted_out : {r : Row} → r ∈ rows_of (numbers_of (sorted (rows_of t k)) ++ drop (row_width * k) t) n → r ∈ rows_of t n
  sorted_out {r} m =
      let front = sorted (rows_of t k) in
      let rest = drop (row_width * k) t in
      let size : length front ≡ k = sorted_length (rows_of t k) ∙ rows_of_length t k in
      let new : rows_of (numbers_of front ++ rest) n ≡ front ++ rows_from t k n =
      ap (rows_of (numbers_of front ++ rest)) all ∙ rows_of_add (numbers_of front ++ rest) k (n - k)
      ∙ rw (rows_of_written front rest k size, front_rest front rest k size) refl in
      let old : rows_of t n ≡ rows_of t k ++ rows_from t k n = ap (rows_of t) all ∙ rows_of_add t k (n - k) in
      subst (λ (l : List Row). r ∈ l) (sym old)
      (⊎_elim (λ i. Memᴰ.append_left (rows_from t k n) ((sorted_members (rows_of t k)).0 i)) (Memᴰ.append_right (rows_of t k))
      (Memᴰ.append_cases front (subst (λ (l : List Row). r ∈ l) new m)))

-- sorting some of the first rows leaves all of them small
pub sorted-small : (t : List ℤ) (k n : ℕ) {u : List ℤ} → u ≡ numbers_of (sorted (rows_of t k)) ++ drop (row_width * k) t → k ≤ n → AllSmallLast (displaced_of t n)
    → AllSmallLast (displaced_of u n)
sorted-small t k n {u} e h small s m =
    let (r, i, is) = map_out of_displacement (rows_of u n) m in
    let here = sorted_out t k n h (subst (λ (l : List ℤ). r ∈ rows_of l n) e i) in
    subst SmallLast (sym is) (small (of_displacement r) (map_in of_displacement here))

-- sorting rows by first sorts their records
firsts_sorted : (m : List Record) (behind rest : List ℤ) (k : ℕ) → length m ≡ k
    → map of_first (rows_of (numbers_of (sorted (rows_of (numbers_of (map by_first m) ++ behind) k)) ++ rest) k) ≡ sorted_by_first m
unfolding sorted_by_first
firsts_sorted m behind rest k size =
    let rows = rows_of_written (map by_first m) behind k (length-map m by_first ∙ size) in
    rw (rows, rows_of_written (sorted (map by_first m)) rest k (sorted_length (map by_first m) ∙ length-map m by_first ∙ size)) refl

-- ---- all steps

-- n rows of t are normalised in steps: `ordered` has them sorted by displacement, `merging` has k rows by first of the merged records, `listing`
-- has these sorted, and out has their records. What lies behind the rows does not matter
pub record Steps (t : List ℤ) (n k : ℕ) (out : List ℤ) : Type 0 where
  pub small : AllSmallLast (displaced_of t n)
  pub ordered : List ℤ
  pub sorts : ordered ≡ numbers_of (sorted (rows_of t n)) ++ drop (row_width * n) t
  pub count : k ≡ length (merged (displaced_of ordered n))
  pub merging : List ℤ
  pub behind_merging : List ℤ
  pub merges : merging ≡ numbers_of (map by_first (merged (displaced_of ordered n))) ++ behind_merging
  pub listing : List ℤ
  pub behind_listing : List ℤ
  pub resorts : listing ≡ numbers_of (sorted (rows_of merging k)) ++ behind_listing
  pub behind_out : List ℤ
  pub writes : out ≡ calls.numbers_of (map of_first (rows_of listing k)) ++ behind_out

module _ {t : List ℤ} {n k : ℕ} {out : List ℤ} (s : Steps t n k out) where
  -- what the pass leaves
  pass : List Record
  pass = merged (sorted_by_displacement (displaced_of t n))

  pass_length : length pass ≡ k
  unfolding pass
  pass_length = sym (s.count ∙ rw (s.sorts, records-sorted t n) refl)

  -- sorted, it is the list
  pass_normal : sorted_by_first pass ≡ normal (displaced_of t n)
  unfolding pass fast_normal
  pass_normal = fast-normal (displaced_of t n) (λ r m. (s.small r m).full)

  -- k is how many records the list has
  pub normalised_count : k ≡ length (normal (displaced_of t n))
  normalised_count = sym (ap length (sym pass_normal) ∙ by-first_length pass ∙ pass_length)

  -- the records that are written
  written : map of_first (rows_of s.listing k) ≡ normal (displaced_of t n)
  unfolding pass
  written = rw (s.resorts, s.merges, s.sorts, records-sorted t n) (firsts_sorted pass s.behind_merging s.behind_listing k pass_length) ∙ pass_normal

  -- and their numbers are in front
  pub normalised_numbers : take (row_width * k) out ≡ calls.numbers_of (normal (displaced_of t n))
  normalised_numbers =
      rw (s.writes, written)
      (take_at (calls.numbers_of (normal (displaced_of t n))) s.behind_out (row_width * k)
      (numbers_length (normal (displaced_of t n)) ∙ ap (λ (j : ℕ). row_width * j) (sym normalised_count)))

-- ---- without the sort by first

-- n rows of t, sorted by displacement, stand in `ordered`
module _ (t : List ℤ) (n : ℕ) (all : AllSmallLast (displaced_of t n)) (ordered : List ℤ) (sorts : ordered ≡ numbers_of (sorted (rows_of t n)) ++ drop (row_width * n) t) where
  -- merged, they are the rows of the list
  merged-rows-normal : merged (displaced_of ordered n) ≡ sorted_by_displacement (normal (displaced_of t n))
  merged-rows-normal = rw (sorts, records-sorted t n) (merged-normal (displaced_of t n) (λ s m. (all s m).full))

  -- as many as the list has
  pub displaced_count : (k : ℕ) → k ≡ length (merged (displaced_of ordered n)) → k ≡ length (normal (displaced_of t n))
  displaced_count k count = count ∙ ap length merged-rows-normal ∙ by-displacement_length (normal (displaced_of t n))

  -- and they are read where they are written
  pub displaced_records : (k : ℕ) (out behind : List ℤ) → k ≡ length (merged (displaced_of ordered n))
      → out ≡ numbers_of (map by_displacement (merged (displaced_of ordered n))) ++ behind → displaced_of out k ≡ sorted_by_displacement (normal (displaced_of t n))
  displaced_records k out behind count writes =
      let pass = merged (displaced_of ordered n) in
      rw (writes, rows_of_written (map by_displacement pass) behind k (length-map pass by_displacement ∙ sym count), records_back pass) merged-rows-normal

-- no rows are those of the empty list
pub displaced_none : (t : List ℤ) (n : ℕ) → n ≡ 0
    → (0 ≡ length (normal (displaced_of t n))) × (displaced_of t 0 ≡ sorted_by_displacement (normal (displaced_of t n)))
unfolding rows_of normal sorted_by_displacement sorted
displaced_none t n e = rw e (refl, refl)
