-- The groups of leaf rows: each leaf row is in exactly one group, whose row is the lowest of it; these rows ascend; and where no implementation leaf stands twice
-- the leaves of a group are distinct.
use mathlib.Core.Path.{◌≡◌, refl, sym, ap, ◌∙◌}
use mathlib.Core.Bool.{Bool}
use mathlib.Core.List.Memᴰ
use mathlib.Core.List.{List, ◌∷◌, map, map-map}
use mathlib.Core.Logic.{◌⊎◌, inl, inr, ◌↔◌, ⊎_elim}
use Prim.Native.Nat.{◌≤◌, ◌<◌}
use native.Mathlib.Omega.{arith}
use lib.IntN.{ℤ}
use lib.ListN.{length}
use Rattle.integers.specs.Integers.{eq_z}
use Rattle.integers.proofs.Tests.{passed, failed, eq_z?}
use Rattle.lists.specs.Lists.{◌∈◌, keep, Distinct, none, more}
use Rattle.lists.proofs.Kept.{keep_length}
use Rattle.lists.proofs.Membership.{keep_in, keep_out, map_in, map_out}
use Rattle.lists.proofs.Decisions.{Decides, decides_and, decides_iff, decides_lt, not?, any?, test_map}
use Rattle.model.specs.Rows.{Pair}
use Rattle.model.specs.Groups.{Bank, leaves_of}
use Rattle.model.specs.Compare.{Tables, leaf_rows, same_spec, group, bank_of, banks, is_lowest, lowest_rows, groups}
use Rattle.model.specs.Refusals.{SameImpl, PairedBefore}
use Rattle.model.proofs.Visits.{Ascends, none, more, ascends_two, ascends_keep, RowBefore, pairs-ascending}

-- ---- lowest rows

-- the test on two leaf rows decides whether they have the same specification leaf
pub same_spec? : (p q : Pair) → Decides (q.spec ≡ p.spec) (same_spec p q)
unfolding same_spec
same_spec? p q = eq_z? q.spec p.spec

-- no row of the list before p has its specification leaf
abbrev Lowest : List Pair → Pair → Type 0
Lowest rows p = (q : Pair) → q ∈ rows → q.row < p.row → q.spec ≡ p.spec → ⊥

-- the test on a row decides whether it is the lowest of its group
pub is_lowest? : (rows : List Pair) (p : Pair) → Decides (Lowest rows p) (is_lowest rows p)
unfolding is_lowest
is_lowest? rows p =
    test_map (λ n q m b e. n q m (b, e)) (λ (q, m, (b, e)) n. n q m b e)
    (not? (any? (λ q. decides_and (decides_lt q.row p.row) (same_spec? p q)) rows))

module _ (t : Tables) where
  -- a row stands for a group exactly where it is a leaf row and no leaf row before it has its specification leaf
  pub group-rows : (l : Pair) → l ∈ groups t ↔ ((l ∈ leaf_rows t) × Lowest (leaf_rows t) l)
  unfolding lowest_rows
  group-rows l = (
    λ m. let (n, k) = keep_out (is_lowest (leaf_rows t)) (leaf_rows t) m in (n, (decides_iff (is_lowest? (leaf_rows t) l)).0 k),
    λ (m, k). keep_in (is_lowest (leaf_rows t)) ((decides_iff (is_lowest? (leaf_rows t) l)).1 k) m,
  )

  -- it is a leaf row
  pub group-leaf : {l : Pair} → l ∈ groups t → l ∈ leaf_rows t
  group-leaf {l} m = ((group-rows l).0 m).0

  -- such rows ascend
  pub groups-ascending : Ascends RowBefore (groups t)
  unfolding lowest_rows
  groups-ascending = ascends_keep (is_lowest (leaf_rows t)) (pairs-ascending t.leaf_pairs)

  -- two of them have different specification leaves, or are one
  pub group_unique : {l m : Pair} → l ∈ groups t → m ∈ groups t → l.spec ≡ m.spec → l ≡ m
  group_unique {l} {m} p q e =
      ⊎_elim (λ k. k) (λ k. absurd (⊎_elim (λ b. ((group-rows m).0 q).1 l (group-leaf p) b e) (λ b. ((group-rows l).0 p).1 m (group-leaf q) b (sym e)) k))
      (ascends_two groups-ascending p q)

  -- ---- the rows of a group

  -- they are the leaf rows with its specification leaf
  pub group_in : (l p : Pair) → p ∈ group (leaf_rows t) l ↔ ((p ∈ leaf_rows t) × (p.spec ≡ l.spec))
  unfolding group
  group_in l p = (
    λ m. let (n, k) = keep_out (same_spec l) (leaf_rows t) m in (n, (decides_iff (same_spec? l p)).0 k),
    λ (m, e). keep_in (same_spec l) ((decides_iff (same_spec? l p)).1 e) m,
  )

  -- its banks are theirs
  pub bank_out : (l : Pair) {b : Bank} → b ∈ banks t l → (p : Pair) × (p ∈ leaf_rows t) × (p.spec ≡ l.spec) × (b ≡ bank_of p)
  bank_out l m = let (p, n, e) = map_out bank_of (group (leaf_rows t) l) m in let (i, k) = (group_in l p).0 n in (p, i, k, e)

  pub bank_in : (l : Pair) {p : Pair} → p ∈ leaf_rows t → p.spec ≡ l.spec → bank_of p ∈ banks t l
  bank_in l {p} m e = map_in bank_of ((group_in l p).1 (m, e))

-- of the rows of a list in order that have a specification leaf one is the lowest: the first of them
first-lowest : {rows : List Pair} → Ascends RowBefore rows → {p : Pair} → p ∈ rows → (l : Pair) × (l ∈ rows) × (p.spec ≡ l.spec) × Lowest rows l
first-lowest none m = absurd (Memᴰ.not-nil m)
first-lowest (more {x} {l = rows} h a) {p} m = go (Memᴰ.cases_cons m) (λ n. first-lowest a n)
  where
    -- the head is the lowest: no row before it is in the list
    head : Lowest (x ∷ rows) x
    head q n b e = ⊎_elim (λ k. let z : q.row ≡ x.row = ap (λ (d : Pair). d.row) k in omega arith) (λ k. let c = h q k in omega arith) (Memᴰ.cases_cons n)

    -- the lowest of the rest is the lowest of the list, unless the head has its specification leaf
    back : (l : Pair) → l ∈ rows → p.spec ≡ l.spec → Lowest rows l → {b : Bool} → Decides (x.spec ≡ l.spec) b
        → (l : Pair) × (l ∈ (x ∷ rows)) × (p.spec ≡ l.spec) × Lowest (x ∷ rows) l
    back l n e k (passed s) = (x, Memᴰ.head refl, e ∙ sym s, head)
    back l n e k (failed s) =
        (l, Memᴰ.tail n, e, λ q i b f. ⊎_elim (λ z. s (ap (λ (d : Pair). d.spec) (sym z) ∙ f)) (λ z. k q z b f) (Memᴰ.cases_cons i))

    go : (p ≡ x) ⊎ (p ∈ rows) → (p ∈ rows → (l : Pair) × (l ∈ rows) × (p.spec ≡ l.spec) × Lowest rows l)
        → (l : Pair) × (l ∈ (x ∷ rows)) × (p.spec ≡ l.spec) × Lowest (x ∷ rows) l
    go (inl e) rec = (x, Memᴰ.head refl, ap (λ (d : Pair). d.spec) e, head)
    go (inr n) rec = let (l, i, e, k) = rec n in back l i e k (same_spec? l x)

-- every leaf row has the specification leaf of a group
pub group_of : (t : Tables) {p : Pair} → p ∈ leaf_rows t → (l : Pair) × (l ∈ groups t) × (p.spec ≡ l.spec)
group_of t m =
    let (l, n, e, k) = first-lowest (pairs-ascending t.leaf_pairs) m in
    (l, (group-rows t l).1 (n, k), e)

-- so every leaf row is in a group, and in no other
pub group-exactly : (t : Tables) {p : Pair} → p ∈ leaf_rows t
    → (l : Pair) × (l ∈ groups t) × (p ∈ group (leaf_rows t) l) × ((m : Pair) → m ∈ groups t → p ∈ group (leaf_rows t) m → m ≡ l)
group-exactly t {p} m =
    let (l, n, e) = group_of t m in
    (l, n, (group_in t l p).1 (m, e), λ k i j. group_unique t i n (sym ((group_in t k p).0 j).1 ∙ e))

-- the row of a group is the lowest of it
pub group-lowest : (t : Tables) {l p : Pair} → l ∈ groups t → p ∈ group (leaf_rows t) l → (p ≡ l) ⊎ (l.row < p.row)
group-lowest t {l} {p} m n =
    let (i, e) = (group_in t l p).0 n in
    ⊎_elim inl (λ k. ⊎_elim (λ b. absurd (((group-rows t l).0 m).1 p i b e)) inr k) (ascends_two (pairs-ascending t.leaf_pairs) i (group-leaf t m))

-- any row of a group has its banks
pub banks-same : (t : Tables) (l m : Pair) → l.spec ≡ m.spec → banks t l ≡ banks t m
unfolding group same_spec
banks-same t l m e = ap (λ (s : ℤ). map bank_of (keep (λ q. eq_z q.spec s) (leaf_rows t))) e

-- there are no more groups than leaf rows
pub groups-few : (t : Tables) → length (groups t) ≤ length (leaf_rows t)
unfolding lowest_rows
groups-few t = keep_length (is_lowest (leaf_rows t)) (leaf_rows t)

-- ---- the leaves of a group

-- where no row has the implementation leaf of an earlier row, those of what is kept of rows in order are distinct
once-distinct : (ok : Pair → Bool) {rows : List Pair} → Ascends RowBefore rows → ((p : Pair) → p ∈ rows → PairedBefore SameImpl rows p → ⊥)
    → Distinct (map (λ p. p.impl) (keep ok rows))
once-distinct ok {rows} a once = go (ascends_keep ok a) (λ p m. (keep_out ok rows m).0)
  where
    go : {l : List Pair} → Ascends RowBefore l → ((p : Pair) → p ∈ l → p ∈ rows) → Distinct (map (λ p. p.impl) l)
    go none inside = none
    go (more {x} {l} h b) inside =
        more
        (λ m. let (p, n, e) = map_out (λ p. p.impl) l m in
        once p (inside p (Memᴰ.tail n)) (record { earlier = x; row = inside x (Memᴰ.head refl); before = h p n; same = e }))
        (go b (λ p m. inside p (Memᴰ.tail m)))

-- the leaves of the banks of a group are distinct
pub banks-distinct : (t : Tables) (l : Pair) → ((p : Pair) → p ∈ leaf_rows t → PairedBefore SameImpl (leaf_rows t) p → ⊥) → Distinct (leaves_of (banks t l))
unfolding group
banks-distinct t l once = rw (map-map (λ b. b.leaf) bank_of (keep (same_spec l) (leaf_rows t))) (once-distinct (same_spec l) (pairs-ascending t.leaf_pairs) once)
