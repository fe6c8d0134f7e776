-- Pair rows ascend, visits are all pairs of a root row with a leaf row of a list, and they stand in visiting order.
use mathlib.Core.Path.{◌≡◌, refl, sym, ap, subst}
use mathlib.Core.Bool.{Bool, true, false, cond}
use mathlib.Core.List.Memᴰ
use mathlib.Core.List.{List, [], ◌∷◌, ◌++◌, map, flat_map}
use mathlib.Core.Logic.{◌⊎◌, inl, inr, ◌↔◌, ⊎_elim}
use Prim.Native.Nat.{ℕ, suc, ◌*◌, ◌≤◌, ◌<◌}
use native.Mathlib.Nat.{le_of_lt, suc-mul}
use native.Mathlib.Omega.{arith}
use lib.IntN.{ℤ}
use lib.ListN.{length, length-append, length-map}
use Rattle.lists.specs.Lists.{◌∈◌, keep}
use Rattle.lists.proofs.Membership.{keep_out, map_in, map_out, flat_map_in, flat_map_out}
use Rattle.model.specs.Rows.{Pair, pairs_from, pair_rows}
use Rattle.model.specs.Compare.{Visit, visits}
use Rattle.model.specs.Demands.{VisitedBefore}

-- ---- lists in order

-- each element stands before all that follow it
pub data Ascends {A : Type 0} (Before : A → A → Type 0) : List A → Type 0 where
  none : Ascends Before []
  more : {x : A} {l : List A} → ((y : A) → y ∈ l → Before x y) → Ascends Before l → Ascends Before (x ∷ l)

module _ {A : Type 0} {Before : A → A → Type 0} where
  -- two elements of a list in order are the same, or one of them stands before the other
  pub ascends_two : {x y : A} {l : List A} → Ascends Before l → x ∈ l → y ∈ l → (x ≡ y) ⊎ Before x y ⊎ Before y x
  ascends_two none p q = absurd (Memᴰ.not-nil p)
  ascends_two {x} {y} (more {x = z} {l} h a) p q = go (Memᴰ.cases_cons p) (Memᴰ.cases_cons q) (ascends_two a)
    where
      go : (x ≡ z) ⊎ (x ∈ l) → (y ≡ z) ⊎ (y ∈ l) → (x ∈ l → y ∈ l → (x ≡ y) ⊎ Before x y ⊎ Before y x) → (x ≡ y) ⊎ Before x y ⊎ Before y x
      go (inl e) (inl f) rec = inl (cc)
      go (inl e) (inr n) rec = inr (inl (subst (λ (w : A). Before w y) (sym e) (h y n)))
      go (inr m) (inl f) rec = inr (inr (subst (λ (w : A). Before w x) (sym f) (h x m)))
      go (inr m) (inr n) rec = rec m n

  -- a list in order after another, all of whose elements stand before its own
  pub ascends_append : {k l : List A} → Ascends Before k → Ascends Before l → ((x y : A) → x ∈ k → y ∈ l → Before x y) → Ascends Before (k ++ l)
  ascends_append none b h = b
  ascends_append (more {x} {l = k} f a) b h =
      more (λ y m. ⊎_elim (f y) (h x y (Memᴰ.head refl)) (Memᴰ.append_cases k m)) (ascends_append a b (λ w y m. h w y (Memᴰ.tail m)))

  -- what stands before an element of a list in order is in the part ahead of it
  pub ascends_ahead : {x y : A} (k l : List A) → ((u v : A) → Before u v → Before v u → ⊥) → Ascends Before (k ++ (x ∷ l)) → y ∈ (k ++ (x ∷ l))
      → Before y x → y ∈ k
  ascends_ahead {x} {y} [] l asym (more h a) m b = absurd (⊎_elim same (λ n. asym x y (h y n) b) (Memᴰ.cases_cons m))
    where
      same : y ≡ x → ⊥
      same e = let c : Before x x = subst (λ (w : A). Before w x) e b in asym x x c c
  ascends_ahead (z ∷ k) l asym (more h a) m b =
      ⊎_elim (λ e. Memᴰ.head e) (λ n. Memᴰ.tail (ascends_ahead k l asym a n b)) (Memᴰ.cases_cons m)

  -- what is kept of a list in order stands in that order
  pub ascends_keep : (ok : A → Bool) {l : List A} → Ascends Before l → Ascends Before (keep ok l)
  unfolding keep
  ascends_keep ok none = none
  ascends_keep ok (more {x} {l} h a) = go (ok x) (ascends_keep ok a)
    where
      go : (t : Bool) → Ascends Before (keep ok l) → Ascends Before (cond t (x ∷ keep ok l) (keep ok l))
      go true b = more (λ y m. h y (keep_out ok l m).0) b
      go false b = b

-- the images of a list in order, by a function that keeps the order
pub ascends_map : {A B : Type 0} {Before : A → A → Type 0} {After : B → B → Type 0} (f : A → B) → ((x y : A) → Before x y → After (f x) (f y)) → {l : List A}
    → Ascends Before l → Ascends After (map f l)
ascends_map {After} f keeps none = none
ascends_map {After} f keeps (more {x} {l} h a) =
    more (λ y m. let w = map_out f l m in subst (λ z. After (f x) z) (sym w.2) (keeps x w.0 (h w.0 w.1))) (ascends_map f keeps a)

-- ---- pair rows

-- the row of p is below that of q
abbrev pub RowBefore : Pair → Pair → Type 0
RowBefore p q = p.row < q.row

rows-from : (i : ℕ) (ps : List ℤ) {p : Pair} → p ∈ pairs_from i ps → i ≤ p.row
unfolding pairs_from
rows-from i [] m = absurd (Memᴰ.not-nil m)
rows-from i (s ∷ []) m = absurd (Memᴰ.not-nil m)
rows-from i (s ∷ k ∷ []) m = absurd (Memᴰ.not-nil m)
rows-from i (s ∷ k ∷ a ∷ ps) {p} m =
    ⊎_elim (λ e. let q : p.row ≡ i = ap (λ (d : Pair). d.row) e in omega arith) (λ n. le_of_lt (rows-from (suc i) ps n)) (Memᴰ.cases_cons m)

pairs_from_ascend : (i : ℕ) (ps : List ℤ) → Ascends RowBefore (pairs_from i ps)
unfolding pairs_from
pairs_from_ascend i [] = none
pairs_from_ascend i (s ∷ []) = none
pairs_from_ascend i (s ∷ k ∷ []) = none
pairs_from_ascend i (s ∷ k ∷ a ∷ ps) = more (λ p m. rows-from (suc i) ps m) (pairs_from_ascend (suc i) ps)

-- pair rows ascend
pub pairs-ascending : (ps : List ℤ) → Ascends RowBefore (pair_rows ps)
pairs-ascending ps = pairs_from_ascend 0 ps

-- a row number has one pair
pub pair_row_unique : (ps : List ℤ) {p q : Pair} → p ∈ pair_rows ps → q ∈ pair_rows ps → p.row ≡ q.row → p ≡ q
pair_row_unique ps {p} {q} m n e = ⊎_elim (λ k. k) (λ k. absurd (⊎_elim (λ h. omega arith) (λ h. omega arith) k)) (ascends_two (pairs-ascending ps) m n)

-- ---- visits

-- v is visited before w
abbrev pub VisitBefore : Visit → Visit → Type 0
VisitBefore v w = VisitedBefore v.root v.leaf w.root w.leaf

-- no two visits are each before the other
pub visit-before_asym : (v w : Visit) → VisitBefore v w → VisitBefore w v → ⊥
visit-before_asym v w (inl h) (inl k) = omega arith
visit-before_asym v w (inl h) (inr k) = omega arith
visit-before_asym v w (inr h) (inl k) = omega arith
visit-before_asym v w (inr h) (inr k) = omega arith

-- a visit is of a root row and a leaf row, and each of them is visited with each
pub visits_in : {v : Visit} (rs ls : List Pair) → v ∈ visits rs ls ↔ ((v.root ∈ rs) × (v.leaf ∈ ls))
unfolding visits
visits_in {v} rs ls = (out, λ h. flat_map_in with h.0 (map_in (λ l. record { root = v.root; leaf = l }) h.1))
  where
    with : Pair → List Visit
    with r = map (λ l. record { root = r; leaf = l }) ls

    out : v ∈ flat_map with rs → (v.root ∈ rs) × (v.leaf ∈ ls)
    out m =
        let w = flat_map_out with rs m in
        let u = map_out (λ l. record { root = w.0; leaf = l }) ls w.2 in
        (Memᴰ.cast (ap (λ (x : Visit). x.root) u.2) w.1, Memᴰ.cast (ap (λ (x : Visit). x.leaf) u.2) u.1)

-- visits of rows that ascend stand in visiting order
pub visits-ascending : {rs ls : List Pair} → Ascends RowBefore rs → Ascends RowBefore ls → Ascends VisitBefore (visits rs ls)
unfolding visits flat_map
visits-ascending none b = none
visits-ascending {ls} (more {x = r} {l = rs} h a) b =
    ascends_append (ascends_map (λ l. record { root = r; leaf = l }) (λ p q k. inr (refl, k)) b) (visits-ascending a b) apart
  where
    apart : (v w : Visit) → v ∈ map (λ l. record { root = r; leaf = l }) ls → w ∈ visits rs ls → VisitBefore v w
    apart v w m n =
        let e : v.root ≡ r = ap (λ (x : Visit). x.root) (map_out (λ l. record { root = r; leaf = l }) ls m).2 in
        let k = h w.root ((visits_in rs ls).0 n).0 in
        inl (rw e k)

-- there are as many visits as root rows times leaf rows
pub visits_length : (rs ls : List Pair) → length (visits rs ls) ≡ length rs * length ls
unfolding visits flat_map
visits_length [] ls = omega arith
visits_length (r ∷ rs) ls = simp (length-append, length-map, suc-mul) (omega (arith, visits_length rs ls))
