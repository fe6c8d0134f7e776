-- Records sorted as rows: the same records, in the order of their rows, and none twice where none stood twice. There is one such list.
use mathlib.Core.Path.{◌≡◌, refl, sym, ap, ap₂, ◌∙◌}
use mathlib.Core.Bool.{Bool, true, false}
use mathlib.Core.List.Memᴰ
use mathlib.Core.List.{List, [], ◌∷◌, map}
use mathlib.Core.Logic.{◌⊎◌, inl, inr, ◌↔◌}
use native.Mathlib.Omega.{arith}
use lib.Signed.{lt_z, ◌≤ℤ◌, ◌<ℤ◌}
use lib.Dec.{T}
use lib.ListN.{length, length-map}
use Rattle.integers.proofs.Linear.{ints}
use Rattle.integers.proofs.Tests.{Test, passed, failed, lt?}
use Rattle.lists.specs.Lists.{◌∈◌, Distinct}
use Rattle.lists.specs.Lists as lists
use Rattle.lists.proofs.Membership.{map_in, map_out}
use Rattle.lists.proofs.Distinct.{map_distinct}
use Rattle.sorting.specs.declared.Row.{Row}
use Rattle.sorting.specs.Rows.{le_row, Ascending, insert, sorted}
use Rattle.sorting.specs.Rows as rows
use Rattle.sorting.proofs.Order.{le_row_says, le_row_refl, le_row_antisym}
use Rattle.sorting.proofs.Sorting.{insert-none, insert_cases, insert_out, first_of_all, sorted_members, sorted_length, sorted-ascending, sorted_fixed}
use Rattle.model.specs.Bitmapping.{Record, Before, Ordered}
use Rattle.model.specs.Bitmapping as bits
use Rattle.model.proofs.Records.{Aligned}
use Rattle.normalisation.specs.Merging.{by_displacement, of_displacement, by_first, of_first, sorted_by_displacement, sorted_by_first}

-- ---- no row twice

insert-distinct : {x : Row} {l : List Row} → (x ∈ l → ⊥) → Distinct l → Distinct (insert x l)
insert-distinct {x} new lists.none = rw (insert-none x) (lists.more Memᴰ.not-nil lists.none)
insert-distinct {x} new (lists.more {x = y} {l = l} other d) =
    insert_cases Distinct x y l (λ t. lists.more new (lists.more other d))
    (λ n. lists.more (λ m. go (insert_out x l m)) (insert-distinct (λ m. new (Memᴰ.tail m)) d))
  where
    go : y ∈ (x ∷ l) → ⊥
    go (Memᴰ.head e) = new (Memᴰ.head (sym e))
    go (Memᴰ.tail k) = other k

-- sorting repeats no row
pub sorted-distinct : {l : List Row} → Distinct l → Distinct (sorted l)
unfolding sorted
sorted-distinct lists.none = lists.none
sorted-distinct (lists.more {x} {l} new d) = insert-distinct (λ m. new ((sorted_members l).0 m)) (sorted-distinct d)

-- ---- one ascending list

-- the heads of ascending lists with the same rows are the same
ascending_head : {x y : Row} {l m : List Row} → ((z : Row) → z ∈ l → T (le_row x z)) → ((z : Row) → z ∈ m → T (le_row y z))
    → x ∈ (y ∷ m) → y ∈ (x ∷ l) → x ≡ y
ascending_head {x} {y} {l} {m} h k p q = le_row_antisym x y (first_of_all x x l (le_row_refl x) h y q) (first_of_all y y m (le_row_refl y) k x p)

-- and where none stands twice, their tails have the same rows
ascending_tail : {x y : Row} {l m : List Row} → x ≡ y → (x ∈ l → ⊥) → ((z : Row) → z ∈ (x ∷ l) → z ∈ (y ∷ m)) → (z : Row) → z ∈ l → z ∈ m
ascending_tail {x} {y} {l} {m} e new h z p = go (Memᴰ.cases_cons (h z (Memᴰ.tail p)))
  where
    go : (z ≡ y) ⊎ (z ∈ m) → z ∈ m
    go (inl d) = absurd (new (Memᴰ.cast (e ∙ sym d) p))
    go (inr q) = q

-- ascending lists with the same rows, none twice, are the same
ascending_unique : {l m : List Row} → Ascending l → Distinct l → Ascending m → Distinct m → ((z : Row) → z ∈ l ↔ z ∈ m) → l ≡ m
ascending_unique rows.none c rows.none d same = refl
ascending_unique rows.none c (rows.more {x = y} k b) d same = absurd (Memᴰ.not-nil ((same y).1 (Memᴰ.head refl)))
ascending_unique (rows.more {x} h a) c rows.none d same = absurd (Memᴰ.not-nil ((same x).0 (Memᴰ.head refl)))
ascending_unique (rows.more {x} h a) (lists.more new c) (rows.more {x = y} k b) (lists.more other d) same =
    let e : x ≡ y = ascending_head h k ((same x).0 (Memᴰ.head refl)) ((same y).1 (Memᴰ.head refl)) in
    ap₂ (λ (r : Row) (q : List Row). r ∷ q) e
    (ascending_unique a c b d (λ z. (ascending_tail e new (λ w. (same w).0) z, ascending_tail (sym e) other (λ w. (same w).1) z)))

-- ---- records as rows and back

-- rows by displacement, as records and back
pub rows_back : (l : List Row) → map by_displacement (map of_displacement l) ≡ l
rows_back [] = refl
rows_back (r ∷ l) = ap {B = List Row} (λ k. r ∷ k) (rows_back l)

-- records, as rows by displacement and back
pub records_back : (l : List Record) → map of_displacement (map by_displacement l) ≡ l
records_back [] = refl
records_back (r ∷ l) = ap {B = List Record} (λ k. r ∷ k) (records_back l)

module _ (f : Record → Row) (g : Row → Record) (back : (s : Record) → g (f s) ≡ s) (l : List Record) where
  -- sorted as rows and read back, the records are the same
  rows_members : {s : Record} → s ∈ map g (sorted (map f l)) ↔ s ∈ l
  rows_members {s} = (out, into)
    where
      out : s ∈ map g (sorted (map f l)) → s ∈ l
      out m =
          let (y, p, e) = map_out g (sorted (map f l)) m in
          let (t, q, d) = map_out f l ((sorted_members (map f l)).0 p) in
          Memᴰ.cast (e ∙ ap g d ∙ back t) q

      into : s ∈ l → s ∈ map g (sorted (map f l))
      into m = Memᴰ.cast (sym (back s)) (map_in g ((sorted_members (map f l)).1 (map_in f m)))

-- sorting by displacement keeps which records are there
pub by-displacement_members : (l : List Record) {s : Record} → s ∈ sorted_by_displacement l ↔ s ∈ l
unfolding sorted_by_displacement
by-displacement_members l = rows_members by_displacement of_displacement (λ s. refl) l

-- sorting by first keeps which records are there
pub by-first_members : (l : List Record) {s : Record} → s ∈ sorted_by_first l ↔ s ∈ l
unfolding sorted_by_first
by-first_members l = rows_members by_first of_first (λ s. refl) l

-- ---- the order by displacement

-- sorting by displacement keeps how many records are there
pub by-displacement_length : (l : List Record) → length (sorted_by_displacement l) ≡ length l
unfolding sorted_by_displacement
by-displacement_length l = length-map (sorted (map by_displacement l)) of_displacement ∙ sorted_length (map by_displacement l) ∙ length-map l by_displacement

-- the rows of records sorted by displacement are ascending
pub by-displacement-ascending : (l : List Record) → Ascending (map by_displacement (sorted_by_displacement l))
unfolding sorted_by_displacement
by-displacement-ascending l = rw (rows_back (sorted (map by_displacement l))) (sorted-ascending (map by_displacement l))

-- records whose rows are ascending are sorted already
pub by-displacement_fixed : {l : List Record} → Ascending (map by_displacement l) → sorted_by_displacement l ≡ l
unfolding sorted_by_displacement
by-displacement_fixed {l} a = ap (map of_displacement) (sorted_fixed a) ∙ records_back l

-- lists with the same records, none twice, are the same once sorted
pub by-displacement_unique : {l m : List Record} → Distinct l → Distinct m → ((s : Record) → s ∈ l ↔ s ∈ m)
    → sorted_by_displacement l ≡ sorted_by_displacement m
unfolding sorted_by_displacement
by-displacement_unique {l} {m} c d same =
    ap (map of_displacement)
    (ascending_unique (sorted-ascending (map by_displacement l)) (once c) (sorted-ascending (map by_displacement m)) (once d)
    (λ z. (over l m (λ s. (same s).0), over m l (λ s. (same s).1))))
  where
    once : {k : List Record} → Distinct k → Distinct (sorted (map by_displacement k))
    once d = sorted-distinct (map_distinct by_displacement (λ x y i j e. ap of_displacement e) d)

    over : {z : Row} (k n : List Record) → ((s : Record) → s ∈ k → s ∈ n) → z ∈ sorted (map by_displacement k) → z ∈ sorted (map by_displacement n)
    over k n f p =
        let (s, q, e) = map_out by_displacement k ((sorted_members (map by_displacement k)).0 p) in
        (sorted_members (map by_displacement n)).1 (Memᴰ.cast e (map_in by_displacement (f s q)))

-- each element of a list stands in the relation to all that follow it
pub data Pairwise {A : Type 0} (R : A → A → Type 0) : List A → Type 0 where
  none : Pairwise R []
  more : {x : A} {l : List A} → ((y : A) → y ∈ l → R x y) → Pairwise R l → Pairwise R (x ∷ l)

-- s does not come before r in the order by displacement, then first
pub record Follows (r s : Record) : Type 0 where
  pub displacement : r.displacement ≤ℤ s.displacement
  pub first : r.displacement ≡ s.displacement → r.first ≤ℤ s.first

ascending_follows : {l : List Row} → Ascending l → Pairwise Follows (map of_displacement l)
ascending_follows rows.none = none
ascending_follows (rows.more {x} {l} h a) =
    more {x = of_displacement x} (λ s m. let (y, p, e) = map_out of_displacement l m in rw e (follows y (h y p))) (ascending_follows a)
  where
    follows : (y : Row) → T (le_row x y) → Follows (of_displacement x) (of_displacement y)
    follows y t = let o = le_row_says x y t in record { displacement = o.first; first = o.second }

-- records sorted by displacement follow each other in this order
pub by-displacement_follows : (l : List Record) → Pairwise Follows (sorted_by_displacement l)
unfolding sorted_by_displacement
by-displacement_follows l = ascending_follows (sorted-ascending (map by_displacement l))

-- ---- the order by first

-- rows in ascending order, none twice, are records in order, where no two of the records begin alike
ascending-ordered : {l : List Row} → Ascending l → Distinct l
    → ((r s : Record) → r ∈ map of_first l → s ∈ map of_first l → Aligned r s → r ≡ s) → Ordered (map of_first l)
ascending-ordered rows.none lists.none u = bits.none
ascending-ordered (rows.more {x} {l} h a) (lists.more new d) u =
    bits.more {r = of_first x} (λ s m. let (y, p, e) = map_out of_first l m in rw e (before y p))
    (ascending-ordered a d (λ r s p q. u r s (Memᴰ.tail p) (Memᴰ.tail q)))
  where
    unlike : (y : Row) → y ∈ l → Aligned (of_first x) (of_first y) → ⊥
    unlike y m al =
        let e = u (of_first x) (of_first y) (Memᴰ.head refl) (Memᴰ.tail (map_in of_first m)) al in
        new (Memᴰ.cast (ap by_first e) m)

    lower : (y : Row) → y ∈ l → x.first ≡ y.first → x.second ≤ℤ y.second → (b : Bool)
        → Test (x.second <ℤ y.second) (y.second ≤ℤ x.second) b → x.second <ℤ y.second
    lower y m e k true (passed p) = p
    lower y m e k false (failed p) = absurd (unlike y m (record { first = e; displacement = omega (arith, ints) }))

    before : (y : Row) → y ∈ l → Before (of_first x) (of_first y)
    before y m =
        let o = le_row_says x y (h y m) in
        record { first = o.first; then = λ e. lower y m (sym e) (o.second (sym e)) (lt_z x.second y.second) (lt? x.second y.second) }

-- sorting by first repeats no record
pub by-first-distinct : {l : List Record} → Distinct l → Distinct (sorted_by_first l)
unfolding sorted_by_first
by-first-distinct d =
    map_distinct of_first (λ x y i j e. ap by_first e) (sorted-distinct (map_distinct by_first (λ x y i j e. ap of_first e) d))

-- records sorted by first are in order, where none stands twice and no two begin alike
pub by-first-ordered : {l : List Record} → Distinct l → ((r s : Record) → r ∈ l → s ∈ l → Aligned r s → r ≡ s) → Ordered (sorted_by_first l)
unfolding sorted_by_first
by-first-ordered {l} d u =
    ascending-ordered (sorted-ascending (map by_first l)) (sorted-distinct (map_distinct by_first (λ x y i j e. ap of_first e) d))
    (λ r s p q. u r s ((rows_members by_first of_first (λ t. refl) l).0 p) ((rows_members by_first of_first (λ t. refl) l).0 q))
