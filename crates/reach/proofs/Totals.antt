-- Totals over lists: two lists without repetition that have the same elements have the same total.
use mathlib.Core.Path.{◌≡◌, refl, sym, ap, ◌∙◌}
use mathlib.Core.List.Memᴰ
use mathlib.Core.List.{List, [], ◌∷◌, flat_map}
use mathlib.Core.Logic.{◌⊎◌, inl, inr, ⊎_elim}
use Prim.Native.Nat.{ℕ, ◌+◌, ◌≤◌}
use native.Mathlib.Nat.{le_antisymm}
use native.Mathlib.Omega.{arith}
use lib.ListN.{length, length-append}
use Rattle.lists.specs.Lists.{◌∈◌, Distinct, none, more}

module _ {A : Type 0} where
  -- the sum of f over the list
  abbrev pub total : (A → ℕ) → List A → ℕ
  total f [] = 0
  total f (x ∷ l) = f x + total f l

  -- functions that agree on the elements have the same total
  pub total_agree : (f h : A → ℕ) (l : List A) → ((x : A) → x ∈ l → f x ≡ h x) → total f l ≡ total h l
  total_agree f h [] e = refl
  total_agree f h (x ∷ l) e = let k = total_agree f h l (λ y m. e y (Memᴰ.tail m)) in omega (arith, k, e x (Memᴰ.head refl))

  -- the list without one element x of it
  record Removed (f : A → ℕ) (x : A) (l : List A) : Type 0 where
    rest : List A
    less : total f l ≡ f x + total f rest
    others : (y : A) → y ∈ l → (y ≡ x) ⊎ (y ∈ rest)

  removed : (f : A → ℕ) {x : A} {l : List A} → x ∈ l → Removed f x l
  removed f {x} (Memᴰ.head {x = z} {xs = t} e) =
      record { rest = t; less = ap (λ y. f y + total f t) (sym e); others = λ y n. ⊎_elim (λ q. inl (q ∙ sym e)) inr (Memᴰ.cases_cons n) }
  removed f {x} (Memᴰ.tail {x = z} {xs = t} m) = put (removed f m)
    where
      put : Removed f x t → Removed f x (z ∷ t)
      put w =
          record {
            rest = z ∷ w.rest;
            less = omega (arith, w.less);
            others = λ y n. ⊎_elim (λ q. inr (Memᴰ.head q)) (λ k. ⊎_elim inl (λ j. inr (Memᴰ.tail j)) (w.others y k))
                (Memᴰ.cases_cons n);
          }

  -- a list without repetition has no higher total than a second list that has all its elements
  pub total-below : (f : A → ℕ) {xs : List A} → Distinct xs → (ys : List A) → ((x : A) → x ∈ xs → x ∈ ys) → total f xs ≤ total f ys
  total-below f none ys h = omega arith
  total-below f (more {x} {l} new d) ys h =
      let w = removed f (h x (Memᴰ.head refl)) in
      let k = total-below f d w.rest (λ y m. ⊎_elim (λ q. absurd (new (Memᴰ.cast (sym q) m))) (λ j. j) (w.others y (h y (Memᴰ.tail m)))) in
      omega (arith, k, w.less)

  -- two lists without repetition that have the same elements have the same total
  pub total-same : (f : A → ℕ) {xs ys : List A} → Distinct xs → Distinct ys → ((x : A) → x ∈ xs → x ∈ ys) → ((x : A) → x ∈ ys → x ∈ xs)
      → total f xs ≡ total f ys
  total-same f {xs} {ys} d e h k = le_antisymm (total-below f d ys h) (total-below f e xs k)

-- the length of many lists, one after the other
pub total-lengths : {A B : Type 0} (f : A → List B) (l : List A) → length (flat_map f l) ≡ total (λ x. length (f x)) l
unfolding flat_map
total-lengths f [] = refl
total-lengths f (x ∷ l) = omega (arith, length-append (f x) (flat_map f l), total-lengths f l)
