-- A set of (root bit, leaf bit) has one list at most: records of its lists that touch are equal, so two lists have the same records,
-- and ordered lists with the same records are equal.
use mathlib.Core.Path.{◌≡◌, refl, sym, ap₂, ◌∙◌, subst}
use mathlib.Core.Bool.{Bool, true, false}
use mathlib.Core.List.Memᴰ
use mathlib.Core.List.{List, ◌∷◌}
use mathlib.Core.Logic.{◌⊎◌, inl, inr, ◌↔◌}
use native.Mathlib.Omega.{arith}
use lib.IntN.{ℤ, pos, ◌+ℤ◌, ◌-ℤ◌}
use lib.Signed.{le_z, ◌≤ℤ◌, ◌<ℤ◌}
use Rattle.integers.proofs.Linear.{ints, sum, diff}
use Rattle.integers.proofs.Tests.{Test, passed, failed, le?}
use Rattle.lists.specs.Lists.{◌∈◌}
use Rattle.model.specs.Bitmapping.{Record, Has, Before, Ordered, none, more, IsListOf}
use Rattle.model.proofs.Records.{record_path, displacement_of, has_at, Touch, touch_sym, Near, has_near, touch_near, before_irrefl, before_trans}

-- a list of a set is a list of every set with the same members
pub list_of_same : {S S' : ℤ → ℤ → Type 0} {l : List Record} → ((x y : ℤ) → S x y ↔ S' x y) → IsListOf S l → IsListOf S' l
list_of_same e h =
    record {
      full = h.full;
      sound = λ s m x y k. (e x y).0 (h.sound s m x y k);
      complete = λ x y k. h.complete x y ((e x y).1 k);
      maximal = λ s m y. (λ d k. (h.maximal s m y).0 d ((e (s.first -ℤ pos 1) y).1 k), λ d k. (h.maximal s m y).1 d ((e (s.last +ℤ pos 1) y).1 k));
      ordered = h.ordered;
    }

module _ {S : ℤ → ℤ → Type 0} {l m : List Record} (L : IsListOf S l) (M : IsListOf S m) {r s : Record} (p : r ∈ l) (q : s ∈ m) (t : Touch r s) where
  -- s has no bit that the set lacks at r's displacement
  touch_lacks : (x : ℤ) → ((y : ℤ) → x -ℤ y ≡ r.displacement → S x y → ⊥) → s.first ≤ℤ x → x ≤ℤ s.last → ⊥
  touch_lacks x lacks h k =
      let y = x -ℤ s.displacement in lacks y (displacement_of x s.displacement ∙ sym t.same) (M.sound s q x y (has_at s x h k))

  -- r begins no higher than s: else s would have the bit below r
  touch-first : r.first ≤ℤ s.first
  touch-first = go (le_z r.first s.first) (le? r.first s.first)
    where
      go : (b : Bool) → Test (r.first ≤ℤ s.first) (s.first <ℤ r.first) b → r.first ≤ℤ s.first
      go true (passed h) = h
      go false (failed h) =
          absurd
          (touch_lacks (r.first -ℤ pos 1) (λ y. (L.maximal r p y).0) (omega (arith, ints, diff r.first (pos 1)))
          (omega (arith, ints, diff r.first (pos 1), sum s.last (pos 1))))

  -- r ends no lower than s: else s would have the bit above r
  touch-last : s.last ≤ℤ r.last
  touch-last = go (le_z s.last r.last) (le? s.last r.last)
    where
      go : (b : Bool) → Test (s.last ≤ℤ r.last) (r.last <ℤ s.last) b → s.last ≤ℤ r.last
      go true (passed h) = h
      go false (failed h) = absurd (touch_lacks (r.last +ℤ pos 1) (λ y. (L.maximal r p y).1) t.reaches (omega (arith, ints, sum r.last (pos 1))))

-- records of lists of one set that touch are equal
pub list-touch : {S : ℤ → ℤ → Type 0} {l m : List Record} → IsListOf S l → IsListOf S m → {r s : Record} → r ∈ l → s ∈ m → Touch r s → r ≡ s
list-touch L M p q t =
    let u = touch_sym t in
    record_path (omega (arith, ints, touch-first L M p q t, touch-first M L q p u)) (omega (arith, ints, touch-last L M p q t, touch-last M L q p u)) t.same

-- the run of a record goes on nowhere: of the bits in it and next to it, those in the set are its own
pub list_near : {S : ℤ → ℤ → Type 0} {l : List Record} → IsListOf S l → {s : Record} → s ∈ l → {x y : ℤ} → Near s x y → S x y → Has s x y
list_near L p {x} {y} n k =
    let (t, q, h) = L.complete x y k in
    subst (λ (z : Record). Has z x y) (list-touch L L q p (touch_sym (touch_near n h))) h

-- and where that is so, the record is maximal
pub near_maximal : {S : ℤ → ℤ → Type 0} {s : Record} → s.first ≤ℤ s.last → ((x y : ℤ) → Near s x y → S x y → Has s x y) → (y : ℤ)
    → ((s.first -ℤ pos 1) -ℤ y ≡ s.displacement → S (s.first -ℤ pos 1) y → ⊥) × ((s.last +ℤ pos 1) -ℤ y ≡ s.displacement → S (s.last +ℤ pos 1) y → ⊥)
near_maximal {S} {s} n own y = (λ d k. before (own below y (near_first d) k), λ d k. after (own above y (near_last d) k))
  where
    below : ℤ
    below = s.first -ℤ pos 1

    above : ℤ
    above = s.last +ℤ pos 1

    near_first : below -ℤ y ≡ s.displacement → Near s below y
    near_first d =
        record {
          above = omega (arith, ints, diff s.first (pos 1), sum below (pos 1));
          below = omega (arith, ints, diff s.first (pos 1), sum s.last (pos 1));
          apart = d;
        }

    near_last : above -ℤ y ≡ s.displacement → Near s above y
    near_last d = record { above = omega (arith, ints, sum s.last (pos 1), sum above (pos 1)); below = omega (arith, ints); apart = d }

    before : Has s below y → ⊥
    before h = omega (arith, ints, diff s.first (pos 1))

    after : Has s above y → ⊥
    after h = omega (arith, ints, sum s.last (pos 1))

-- a record of one list of a set is a record of every other
pub list_members : {S : ℤ → ℤ → Type 0} {l m : List Record} → IsListOf S l → IsListOf S m → (r : Record) → r ∈ l → r ∈ m
list_members L M r p =
    let h = has_at r r.first (omega (arith, ints)) (L.full r p) in
    let (s, q, k) = M.complete r.first (r.first -ℤ r.displacement) (L.sound r p r.first (r.first -ℤ r.displacement) h) in
    Memᴰ.cast (list-touch L M p q (touch_near (has_near h) k)) q

-- the heads of ordered lists with the same records are equal
ordered_head : {r s : Record} {t u : List Record} → ((x : Record) → x ∈ t → Before r x) → ((x : Record) → x ∈ u → Before s x)
    → r ∈ (s ∷ u) → s ∈ (r ∷ t) → r ≡ s
ordered_head {r} {s} {t} {u} a b p q = go (Memᴰ.cases_cons p) (Memᴰ.cases_cons q)
  where
    go : (r ≡ s) ⊎ (r ∈ u) → (s ≡ r) ⊎ (s ∈ t) → r ≡ s
    go (inl e) q = e
    go (inr p) (inl e) = sym e
    go (inr p) (inr q) = absurd (before_irrefl (before_trans (a s q) (b r p)))

-- and their tails have the same records
ordered_tail : {r s : Record} {t u : List Record} → r ≡ s → ((x : Record) → x ∈ t → Before r x)
    → ((x : Record) → x ∈ (r ∷ t) → x ∈ (s ∷ u)) → (x : Record) → x ∈ t → x ∈ u
ordered_tail {r} {s} {t} {u} e a h x p = go (Memᴰ.cases_cons (h x (Memᴰ.tail p)))
  where
    go : (x ≡ s) ⊎ (x ∈ u) → x ∈ u
    go (inl k) = absurd (before_irrefl (subst (Before r) (k ∙ sym e) (a x p)))
    go (inr q) = q

-- ordered lists with the same records are equal
pub ordered_unique : {l m : List Record} → Ordered l → Ordered m → ((s : Record) → s ∈ l ↔ s ∈ m) → l ≡ m
ordered_unique none none h = refl
ordered_unique none (more {r = s} b q) h = absurd (Memᴰ.not-nil ((h s).1 (Memᴰ.head refl)))
ordered_unique (more {r = r} a p) none h = absurd (Memᴰ.not-nil ((h r).0 (Memᴰ.head refl)))
ordered_unique (more {r = r} a p) (more {r = s} b q) h =
    let e : r ≡ s = ordered_head a b ((h r).0 (Memᴰ.head refl)) ((h s).1 (Memᴰ.head refl)) in
    ap₂ (λ (x : Record) (z : List Record). x ∷ z) e (ordered_unique p q (λ x. (ordered_tail e a (λ y. (h y).0) x, ordered_tail (sym e) b (λ y. (h y).1) x)))

-- two lists of one set are equal
pub list_unique : {S : ℤ → ℤ → Type 0} {l m : List Record} → IsListOf S l → IsListOf S m → l ≡ m
list_unique L M = ordered_unique L.ordered M.ordered (λ r. (list_members L M r, list_members M L r))
