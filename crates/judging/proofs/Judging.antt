-- The verdict and the lowest address, from rows by displacement: what each of the code's tests and calls says of the lists.
use mathlib.Core.Path.{◌≡◌, refl, sym, ap, ◌∙◌, subst}
use mathlib.Core.Bool.{true, false}
use mathlib.Core.Logic.{◌≢◌}
use mathlib.Core.List.{List, [], ◌∷◌, map}
use Prim.Native.Nat.{ℕ, ◌*◌}
use native.Mathlib.Omega.{arith}
use lib.Dec.{T}
use lib.ListN.{length, take, length-map}
use lib.IntN.{ℤ, ◌-ℤ◌}
use Rattle.integers.proofs.Linear.{ints}
use Rattle.integers.proofs.Tests.{test_of, of_test, T_true}
use Rattle.lists.proofs.Membership.{length_nil}
use Rattle.sorting.specs.declared.Row.{Row}
use Rattle.sorting.specs.Rows.{row_width, rows_of}
use Rattle.sorting.proofs.Tables.{rows_of_length}
use Rattle.model.specs.Bitmapping.{Record}
use Rattle.model.specs.Runs.{normal}
use Rattle.model.specs.Calls.{numbers_of}
use Rattle.model.specs.Verdicts.{equal, partial, different, same_list, all_contained, verdict}
use Rattle.model.proofs.Records.{has_at}
use Rattle.model.proofs.Normalisation.{normal_has, normal-list, normal_length}
use Rattle.model.proofs.Verdicts.{same-list, each?, rules_unique}
use Rattle.normalisation.specs.Merging.{of_displacement, displaced_of, AllSmallLast, sorted_by_displacement}
use Rattle.normalisation.specs.Records.{of_row, records_of, IsNormal}
use Rattle.normalisation.proofs.Sorted.{by-displacement_length}
use Rattle.normalisation.proofs.Records.{records_of-front, stored_normal}
use Rattle.normalisation.proofs.Displaced.{displaced_normal, displaced_same}
use Rattle.containment.specs.Containing.{contains_all}
use Rattle.containment.proofs.Containing.{contains_all-contained}
use Rattle.verdicts.specs.Records.{AllSmallRootBits, SmallList}
use Rattle.judging.specs.Judging.{SmallRows}

-- ---- the same rows

-- the record of a row by displacement, where s is read from the same numbers as first, last and displacement
abbrev displaced : Record → Record
displaced s = record { first = s.last; last = s.displacement; displacement = s.first }

-- and back
abbrev listed : Record → Record
listed s = record { first = s.displacement; last = s.first; displacement = s.last }

displaced_rows : (l : List Row) → map displaced (map of_row l) ≡ map of_displacement l
displaced_rows [] = refl
displaced_rows (r ∷ l) = ap {B = List Record} (λ k. of_displacement r ∷ k) (displaced_rows l)

listed-rows : (l : List Row) → map listed (map of_displacement l) ≡ map of_row l
listed-rows [] = refl
listed-rows (r ∷ l) = ap {B = List Record} (λ k. of_row r ∷ k) (listed-rows l)

module _ (a b : List ℤ) (m n : ℕ) where
  -- rows with the same numbers are the same
  pub rows_same : same_list (records_of a m) (records_of b n) ≡ true → displaced_of a m ≡ displaced_of b n
  rows_same e =
      let same = (same-list (records_of a m) (records_of b n)).0 (T_true (same_list (records_of a m) (records_of b n)) e) in
      sym (displaced_rows (rows_of a m)) ∙ ap (map displaced) same ∙ displaced_rows (rows_of b n)

  -- others are not
  pub rows_unlike : same_list (records_of a m) (records_of b n) ≡ false → displaced_of a m ≢ displaced_of b n
  rows_unlike e d =
      let same = sym (listed-rows (rows_of a m)) ∙ ap (map listed) d ∙ listed-rows (rows_of b n) in
      subst T e ((same-list (records_of a m) (records_of b n)).1 same)

-- n rows are read
pub rows_length : (t : List ℤ) (n : ℕ) → length (displaced_of t n) ≡ n
rows_length t n = length-map (rows_of t n) of_displacement ∙ rows_of_length t n

-- ---- the verdict

-- rs and is are the rows of the two lists
module _ {spec imp rs is : List Record} (p : IsNormal spec) (q : IsNormal imp) (e : rs ≡ sorted_by_displacement spec) (f : is ≡ sorted_by_displacement imp) where
  -- the rows are the same: the lists are equal
  pub judged-equal : rs ≡ is → 0 ≡ verdict spec imp
  judged-equal d = rules_unique (equal (displaced_same p q (sym e ∙ d ∙ f)))

  -- as many records as rows
  size : length imp ≡ length is
  size = sym (ap length f ∙ by-displacement_length imp)

  module _ (n : rs ≢ is) where
    -- else they are not
    unequal : spec ≢ imp
    unequal d = n (e ∙ ap sorted_by_displacement d ∙ sym f)

    -- the implementation has no row: the lists are different
    pub judged-empty : length is ≡ 0 → 2 ≡ verdict spec imp
    judged-empty z = rules_unique (different unequal (λ k. k.some (length_nil imp (size ∙ z))))

    -- it has, and the pass over the rows finds each of them contained: partial
    pub judged-within : length is ≢ 0 → contains_all rs is ≡ true → 1 ≡ verdict spec imp
    judged-within s c =
        let each = test_of (each? spec imp) (T_true (all_contained spec imp) (sym (contains_all-contained p q) ∙ (rw (e, f) at c))) in
        rules_unique (partial (record { unequal = unequal; some = λ d. s (sym size ∙ ap length d); each = each }))

    -- it does not: different
    pub judged_beyond : contains_all rs is ≡ false → 2 ≡ verdict spec imp
    judged_beyond c =
        let none : all_contained spec imp ≡ false = sym (contains_all-contained p q) ∙ (rw (e, f) at c) in
        rules_unique (different unequal (λ k. subst T none (of_test (each? spec imp) (λ n. n k.each))))

-- ---- the lowest address

-- a list of small records is so normalised: where a record begins and where it ends, one of the list has a bit
normal-small : {l : List Record} → AllSmallRootBits l → AllSmallRootBits (normal l)
normal-small {l} all s m =
    let full = (normal-list l (λ r k. (all r k).full)).full s m in
    let (r, i, h) = (normal_has l s.first (s.first -ℤ s.displacement)).0 (s, m, has_at s s.first (omega (arith, ints)) full) in
    let (q, k, j) = (normal_has l s.last (s.last -ℤ s.displacement)).0 (s, m, has_at s s.last full (omega (arith, ints))) in
    record { low = omega (arith, ints, (all r i).low, h.above); full = full; high = omega (arith, ints, (all q k).high, j.below) }

module _ {t : List ℤ} {n : ℕ} (all : SmallRows t n) where
  -- so small that they can be normalised
  pub rows-small : AllSmallLast (displaced_of t n)
  rows-small s m = record { full = (all.small s m).full; high = (all.small s m).high }

  -- the k records of out are those of the n rows of t, normalised
  module _ (k : ℕ) (out : List ℤ) (count : k ≡ length (normal (displaced_of t n))) (numbers : take (row_width * k) out ≡ numbers_of (normal (displaced_of t n))) where
    rows-read : records_of out k ≡ normal (displaced_of t n)
    rows-read = records_of-front out k (sym count) numbers

    -- they are a normal list of small records
    pub rows-list : length out ≡ length t → SmallList out k
    rows-list kept =
        record {
          list = stored_normal out k (omega (arith, count, normal_length (displaced_of t n), rows_length t n, all.within, kept)) (sym count) numbers
              (normal-list (displaced_of t n) (λ s m. (all.small s m).full));
          small = rw rows-read (normal-small all.small);
        }

    -- and the rows of a normal list give that list
    pub rows_back : {l : List Record} → IsNormal l → displaced_of t n ≡ sorted_by_displacement l → records_of out k ≡ l
    rows_back h e = rows-read ∙ ap normal e ∙ displaced_normal h
