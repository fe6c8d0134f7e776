-- One pass over records sorted by displacement merges all that touch: it keeps what the records have, and no two that it leaves touch.
-- So sorting, merging and sorting again is normalisation, and without the last sort it gives the list sorted by displacement.
use mathlib.Core.Path.{◌≡◌, refl, sym, ap, ◌∙◌, subst}
use mathlib.Core.Bool.{Bool, true, false, cond}
use mathlib.Core.List.Memᴰ
use mathlib.Core.List.{List, [], ◌∷◌, map}
use mathlib.Core.Logic.{◌⊎◌, inl, inr, ⊎_elim, ◌↔◌}
use native.Mathlib.Omega.{arith}
use lib.Dec.{T}
use lib.IntN.{ℤ, pos, ◌+ℤ◌, ◌-ℤ◌}
use lib.Signed.{le_z, ◌≤ℤ◌, ◌<ℤ◌}
use Rattle.integers.specs.Integers.{min_z}
use Rattle.integers.proofs.Linear.{ints, sum}
use Rattle.integers.proofs.Tests.{Test, passed, failed, le?, min_is}
use Rattle.lists.specs.Lists.{◌∈◌, Distinct}
use Rattle.lists.specs.Lists as lists
use Rattle.lists.proofs.Membership.{map_out}
use Rattle.sorting.specs.Rows.{le_row, Ascending}
use Rattle.sorting.specs.Rows as rows
use Rattle.sorting.proofs.Order.{le_row-holds}
use Rattle.model.specs.Bitmapping.{Record, Has, IsListOf}
use Rattle.model.specs.Runs.{touch, hull, normal}
use Rattle.model.proofs.Records.{Within, within_refl, within_trans, within_has, Touch, touch?, touch_sym, Near, touch_near, touch-aligned, hull_left, hull_right, Meets, hull_meets}
use Rattle.model.proofs.Uniqueness.{near_maximal}
use Rattle.model.proofs.Normalisation.{Held, normal_unique}
use Rattle.normalisation.specs.Merging.{by_displacement, merge_into, merged, sorted_by_displacement, sorted_by_first, fast_normal}
use Rattle.normalisation.proofs.Sorted.{Pairwise, none, more, Follows, by-displacement_members, by-displacement_fixed, by-displacement_unique, by-displacement_follows, by-first_members, by-first-distinct, by-first-ordered}

-- no record of the list is empty
abbrev pub Full : List Record → Type 0
Full l = (s : Record) → s ∈ l → s.first ≤ℤ s.last

-- ---- the steps of the pass

-- what holds of both ways on holds of the merge
pub merge_into_cases : (P : List Record → Type 0) (r s : Record) (t : List Record)
    → (Touch r s → P (merge_into (hull r s) t)) → ((Touch r s → ⊥) → P (r ∷ merge_into s t)) → P (merge_into r (s ∷ t))
unfolding merge_into
merge_into_cases P r s t wider later = go (touch r s) (touch? r s)
  where
    go : (b : Bool) → Test (Touch r s) (Touch r s → ⊥) b → P (cond b (merge_into (hull r s) t) (r ∷ merge_into s t))
    go true (passed h) = wider h
    go false (failed h) = later h

-- ---- what the records have

-- what the hull of two that touch has, one of them has
hull_has : {r s : Record} {x y : ℤ} → Touch r s → Has (hull r s) x y → Has r x y ⊎ Has s x y
hull_has {r} {s} {x} {y} t h = go (hull_meets t (omega (arith, ints)) (record { first = h.above; last = h.below }))
  where
    displaced : x -ℤ y ≡ r.displacement
    displaced = h.apart ∙ sym (hull_left r s).same

    go : Meets r x x ⊎ Meets s x x → Has r x y ⊎ Has s x y
    go (inl m) = inl (record { above = m.first; below = m.last; apart = displaced })
    go (inr m) = inr (record { above = m.first; below = m.last; apart = displaced ∙ t.same })

-- what a merged record has, a record that was merged has
merge_into-sound : (r : Record) (l : List Record) {x y : ℤ} → Held (merge_into r l) x y → Held (r ∷ l) x y
unfolding merge_into
merge_into-sound r [] h = h
merge_into-sound r (s ∷ t) {x} {y} h =
    merge_into_cases (λ l. Held l x y → Held (r ∷ s ∷ t) x y) r s t (λ k j. joined k (merge_into-sound (hull r s) t j)) (λ k j. apart j (merge_into-sound s t)) h
  where
    joined : Touch r s → Held (hull r s ∷ t) x y → Held (r ∷ s ∷ t) x y
    joined k (z, Memᴰ.head e, j) =
        ⊎_elim (λ p. (r, Memᴰ.head refl, p)) (λ p. (s, Memᴰ.tail (Memᴰ.head refl), p)) (hull_has k (subst (λ (q : Record). Has q x y) e j))
    joined k (z, Memᴰ.tail m, j) = (z, Memᴰ.tail (Memᴰ.tail m), j)

    apart : Held (r ∷ merge_into s t) x y → (Held (merge_into s t) x y → Held (s ∷ t) x y) → Held (r ∷ s ∷ t) x y
    apart (z, Memᴰ.head e, j) rec = (z, Memᴰ.head e, j)
    apart (z, Memᴰ.tail m, j) rec = let (q, p, k) = rec (z, m, j) in (q, Memᴰ.tail p, k)

-- the record lies within one of the list
abbrev WithinSome : Record → List Record → Type 0
WithinSome z l = (s : Record) × (s ∈ l) × Within z s

-- a record that was merged lies within a merged record
merge_into-within : (r : Record) (l : List Record) (z : Record) → z ∈ (r ∷ l) → WithinSome z (merge_into r l)
unfolding merge_into
merge_into-within r [] z m = (z, m, within_refl z)
merge_into-within r (s ∷ t) z m =
    merge_into_cases (WithinSome z) r s t (λ k. joined k m (merge_into-within (hull r s) t)) (λ k. apart m (merge_into-within s t))
  where
    wider : {z q : Record} → Within z q → WithinSome q (merge_into (hull r s) t) → WithinSome z (merge_into (hull r s) t)
    wider w (p, m, v) = (p, m, within_trans w v)

    joined : Touch r s → z ∈ (r ∷ s ∷ t) → ((q : Record) → q ∈ (hull r s ∷ t) → WithinSome q (merge_into (hull r s) t)) → WithinSome z (merge_into (hull r s) t)
    joined k (Memᴰ.head e) rec = rw e (wider (hull_left r s) (rec (hull r s) (Memᴰ.head refl)))
    joined k (Memᴰ.tail (Memᴰ.head e)) rec = rw e (wider (hull_right k) (rec (hull r s) (Memᴰ.head refl)))
    joined k (Memᴰ.tail (Memᴰ.tail p)) rec = rec z (Memᴰ.tail p)

    apart : z ∈ (r ∷ s ∷ t) → ((q : Record) → q ∈ (s ∷ t) → WithinSome q (merge_into s t)) → WithinSome z (r ∷ merge_into s t)
    apart (Memᴰ.head e) rec = (z, Memᴰ.head e, within_refl z)
    apart (Memᴰ.tail p) rec = let (q, j, w) = rec z p in (q, Memᴰ.tail j, w)

-- merging adds no bit
pub merged-sound : (l : List Record) {x y : ℤ} → Held (merged l) x y → Held l x y
unfolding merged
merged-sound [] h = h
merged-sound (r ∷ l) h = merge_into-sound r l h

-- and loses none
pub merged-complete : (l : List Record) {x y : ℤ} → Held l x y → Held (merged l) x y
unfolding merged
merged-complete [] h = h
merged-complete (r ∷ l) (s, m, h) = let (z, p, w) = merge_into-within r l s m in (z, p, within_has w h)

-- ---- no two touch

-- r and s are of different displacements, or a bit lies between the end of r and s
record Clear (r s : Record) : Type 0 where
  displacement : r.displacement ≤ℤ s.displacement
  gap : r.displacement ≡ s.displacement → (r.last +ℤ pos 1) <ℤ s.first

-- a record follows itself, and what follows a record follows all that the record follows
follows_refl : (r : Record) → Follows r r
follows_refl r = record { displacement = omega (arith, ints); first = λ e. omega (arith, ints) }

follows_trans : {q r s : Record} → Follows q r → Follows r s → Follows q s
follows_trans {q} {r} {s} f g =
    record { displacement = omega (arith, ints); first = λ e. tie (f.first (omega (arith, ints))) (g.first (omega (arith, ints))) }
  where
    tie : q.first ≤ℤ r.first → r.first ≤ℤ s.first → q.first ≤ℤ s.first
    tie h k = omega (arith, ints)

-- the hull of a record and one that follows it begins as the record does
hull-first : {r s : Record} → Touch r s → Follows r s → (hull r s).first ≡ r.first
unfolding hull
hull-first {r} {s} t f = go (min_is r.first s.first).2
  where
    go : (min_z r.first s.first ≡ r.first) ⊎ (min_z r.first s.first ≡ s.first) → min_z r.first s.first ≡ r.first
    go (inl e) = e
    go (inr e) = omega (arith, ints, f.first t.same, (min_is r.first s.first).0)

-- so that the same records follow both
hull_follows : {r s z : Record} → Touch r s → Follows r s → Follows r z → Follows (hull r s) z
hull_follows {r} {s} {z} t f g =
    record {
      displacement = omega (arith, ints, (hull_left r s).same);
      first = λ e. omega (arith, ints, hull-first t f, g.first ((hull_left r s).same ∙ e));
    }

follows_hull : {r s z : Record} → Touch r s → Follows r s → Follows (hull r s) z → Follows r z
follows_hull {r} {s} {z} t f g =
    record {
      displacement = omega (arith, ints, (hull_left r s).same);
      first = λ e. omega (arith, ints, hull-first t f, g.first (sym (hull_left r s).same ∙ e));
    }

-- a record that follows r and does not touch it is clear of r, and so are all that follow it
follows_clear : {r s z : Record} → s.first ≤ℤ s.last → Follows r s → (Touch r s → ⊥) → Follows s z → Clear r z
follows_clear {r} {s} {z} n f u g =
    record {
      displacement = omega (arith, ints, f.displacement, g.displacement);
      gap = λ e. behind (omega (arith, ints, f.displacement, g.displacement)) (omega (arith, ints, f.displacement, g.displacement))
          (le_z s.first (r.last +ℤ pos 1)) (le? s.first (r.last +ℤ pos 1));
    }
  where
    behind : r.displacement ≡ s.displacement → s.displacement ≡ z.displacement → (b : Bool)
        → Test (s.first ≤ℤ (r.last +ℤ pos 1)) ((r.last +ℤ pos 1) <ℤ s.first) b → (r.last +ℤ pos 1) <ℤ z.first
    behind p q true (passed k) = absurd (u (record { same = p; reaches = k; reached = omega (arith, ints, f.first p, sum s.last (pos 1)) }))
    behind p q false (failed k) = omega (arith, ints, g.first q)

-- the merge of records that follow r: none is empty or comes before r, and each is clear of those behind it
record Merge (r : Record) (l : List Record) : Type 0 where
  full : Full l
  from : (s : Record) → s ∈ l → Follows r s
  clear : Pairwise Clear l

-- Records that follow each other merge so. Where the first two touch, their hull begins as the first does, so that what followed the first
-- follows the hull. Where they do not, the first ends more than one bit below the second, and all that the rest merges into follows the second.
merge_into-merge : (r : Record) (l : List Record) → Full (r ∷ l) → Pairwise Follows (r ∷ l) → Merge r (merge_into r l)
unfolding merge_into
merge_into-merge r [] n (more h p) =
    record { full = n; from = only; clear = more (λ s m. absurd (Memᴰ.not-nil m)) none }
  where
    only : (s : Record) → s ∈ (r ∷ []) → Follows r s
    only s (Memᴰ.head e) = rw e (follows_refl r)
    only s (Memᴰ.tail m) = absurd (Memᴰ.not-nil m)
merge_into-merge r (s ∷ t) n (more h (more k p)) =
    merge_into_cases (Merge r) r s t
    (λ u. joined u (merge_into-merge (hull r s) t (hull-full u) (more (λ z m. hull_follows u next (h z (Memᴰ.tail m))) p)))
    (λ u. apart u (merge_into-merge s t (λ z m. n z (Memᴰ.tail m)) (more k p)))
  where
    next : Follows r s
    next = h s (Memᴰ.head refl)

    hull-full : Touch r s → Full (hull r s ∷ t)
    hull-full u z (Memᴰ.head e) = rw e (omega (arith, ints, (hull_left r s).first, (hull_left r s).last, n r (Memᴰ.head refl)))
    hull-full u z (Memᴰ.tail m) = n z (Memᴰ.tail (Memᴰ.tail m))

    joined : {l : List Record} → Touch r s → Merge (hull r s) l → Merge r l
    joined u w = record { full = w.full; from = λ z m. follows_hull u next (w.from z m); clear = w.clear }

    apart : {l : List Record} → (Touch r s → ⊥) → Merge s l → Merge r (r ∷ l)
    apart {l} u w = record { full = full; from = from; clear = more clear w.clear }
      where
        full : Full (r ∷ l)
        full z (Memᴰ.head e) = n z (Memᴰ.head e)
        full z (Memᴰ.tail m) = w.full z m

        from : (z : Record) → z ∈ (r ∷ l) → Follows r z
        from z (Memᴰ.head e) = rw e (follows_refl r)
        from z (Memᴰ.tail m) = follows_trans next (w.from z m)

        clear : (z : Record) → z ∈ l → Clear r z
        clear z m = follows_clear (n s (Memᴰ.tail (Memᴰ.head refl))) next u (w.from z m)

-- records that follow each other, merged: none is empty, and each is clear of those behind it
merged_clear : {l : List Record} → Full l → Pairwise Follows l → Full (merged l) × Pairwise Clear (merged l)
unfolding merged
merged_clear n none = (n, none)
merged_clear n (more {x} {l} h p) = let w = merge_into-merge x l n (more h p) in (w.full, w.clear)

-- two records of which one is clear of the other do not touch
clear_apart : {r s : Record} → Clear r s → Touch r s → ⊥
clear_apart c t = omega (arith, ints, c.gap t.same, t.reaches)

-- where each record is clear of those behind it, records that touch are equal
clear_touch : {l : List Record} → Pairwise Clear l → {r s : Record} → r ∈ l → s ∈ l → Touch r s → r ≡ s
clear_touch none {r = r} {s = s} m _ t = elim m [ ]
clear_touch (more h p) (Memᴰ.head e) (Memᴰ.head d) t = e ∙ sym d
clear_touch (more h p) {r} {s} (Memᴰ.head e) (Memᴰ.tail m) t = absurd (clear_apart (h s m) (rw e at t))
clear_touch (more h p) {r} {s} (Memᴰ.tail m) (Memᴰ.head e) t = absurd (clear_apart (h r m) (rw e at (touch_sym t)))
clear_touch (more h p) (Memᴰ.tail m) (Memᴰ.tail k) t = clear_touch p m k t

-- and none stands twice, where none is empty
clear_distinct : {l : List Record} → Full l → Pairwise Clear l → Distinct l
clear_distinct n none = lists.none
clear_distinct n (more {x} {l} h p) = lists.more (λ m. itself (h x m) (n x (Memᴰ.head refl))) (clear_distinct (λ s m. n s (Memᴰ.tail m)) p)
  where
    itself : Clear x x → x.first ≤ℤ x.last → ⊥
    itself c k = omega (arith, ints, c.gap refl, sum x.last (pos 1))

-- ---- normalisation

-- the records that the pass leaves, in order, are the list of what the records have
merged-list : {S : ℤ → ℤ → Type 0} {l : List Record} → Full l → Pairwise Clear l → ((x y : ℤ) → Held l x y ↔ S x y) → IsListOf S (sorted_by_first l)
merged-list {S} {l} n c e =
    record {
      full = λ s m. n s (back m);
      sound = λ s m x y h. (e x y).0 (s, back m, h);
      complete = λ x y k. let (s, m, h) = (e x y).1 k in (s, (by-first_members l).1 m, h);
      maximal = λ s m. near_maximal (n s (back m)) (own s m);
      ordered = by-first-ordered (clear_distinct n c) (λ r s p q a. clear_touch c p q (touch-aligned (n r p) (n s q) a));
    }
  where
    back : {s : Record} → s ∈ sorted_by_first l → s ∈ l
    back m = (by-first_members l).0 m

    own : (s : Record) → s ∈ sorted_by_first l → (x y : ℤ) → Near s x y → S x y → Has s x y
    own s m x y b k = let (t, p, h) = (e x y).1 k in subst (λ (z : Record). Has z x y) (sym (clear_touch c (back m) p (touch_near b h))) h

-- Sorting by displacement, one pass and sorting by first is normalisation: the pass keeps what the records have and leaves no two that
-- touch, so that what it gives, in order, is the list of what the records have, and a set has one list only.
pub fast-normal : (l : List Record) → ((s : Record) → s ∈ l → s.first ≤ℤ s.last) → fast_normal l ≡ normal l
unfolding fast_normal
fast-normal l n =
    let (full, clear) = merged_clear (λ s m. n s ((by-displacement_members l).0 m)) (by-displacement_follows l) in
    sym (normal_unique n (λ x y. (λ h. h, λ h. h)) (merged-list full clear (λ x y. (kept x y, found x y))))
  where
    kept : (x y : ℤ) → Held (merged (sorted_by_displacement l)) x y → Held l x y
    kept x y h = let (s, m, k) = merged-sound (sorted_by_displacement l) h in (s, (by-displacement_members l).0 m, k)

    found : (x y : ℤ) → Held l x y → Held (merged (sorted_by_displacement l)) x y
    found x y (s, m, k) = merged-complete (sorted_by_displacement l) (s, (by-displacement_members l).1 m, k)

-- ---- the list, sorted by displacement

-- records each of which is clear of those behind it are ascending as rows by displacement
clear_ascending : {l : List Record} → Full l → Pairwise Clear l → Ascending (map by_displacement l)
clear_ascending n none = rows.none
clear_ascending n (more {x} {l} h p) =
    rows.more {x = by_displacement x} (λ y m. let (s, q, e) = map_out by_displacement l m in rw e (below s (h s q)))
    (clear_ascending (λ s m. n s (Memᴰ.tail m)) p)
  where
    below : (s : Record) → Clear x s → T (le_row (by_displacement x) (by_displacement s))
    below s c =
        let full = n x (Memᴰ.head refl) in
        le_row-holds (by_displacement x) (by_displacement s) (record {
          first = c.displacement;
          second = λ e. omega (arith, ints, full, c.gap e, sum x.last (pos 1));
          third = λ e d. absurd (omega (arith, ints, full, c.gap e, sum x.last (pos 1)));
        })

-- What the pass leaves is the list, sorted by displacement: its records are those of the list, which are the same sorted by first, none stands twice, and
-- each is clear of those behind it, so that they are in ascending order.
pub merged-normal : (l : List Record) → ((s : Record) → s ∈ l → s.first ≤ℤ s.last) → merged (sorted_by_displacement l) ≡ sorted_by_displacement (normal l)
unfolding fast_normal
merged-normal l n =
    let (full, clear) = merged_clear (λ s m. n s ((by-displacement_members l).0 m)) (by-displacement_follows l) in
    let pass = merged (sorted_by_displacement l) in
    let once : Distinct pass = clear_distinct full clear in
    sym (by-displacement_fixed (clear_ascending full clear)) ∙ by-displacement_unique once (by-first-distinct once) (λ s. ((by-first_members pass).1, (by-first_members pass).0))
    ∙ ap sorted_by_displacement (fast-normal l n)
