-- Which elements keep, map and flat_map have, and what any, all and a choice say.
use mathlib.Core.Path.{◌≡◌, refl, sym, ap, subst}
use mathlib.Core.Bool.{Bool, true, false, not, cond}
use mathlib.Core.List.Memᴰ
use mathlib.Core.List.{List, [], ◌∷◌, map, flat_map, Memᴰ}
use mathlib.Core.Logic.{◌⊎◌, inl, inr}
use native.Mathlib.Omega.{arith}
use lib.Dec.{T}
use lib.ListN.{length}
use Rattle.integers.proofs.Tests.{Test, passed, failed, test?, or_left, or_right, or_out, and_in, and_out, nand_out}
use Rattle.lists.specs.Lists.{◌∈◌, keep, any, all, is_nil}

module _ {A : Type 0} where
  pub keep_in : (f : A → Bool) {x : A} {l : List A} → T (f x) → x ∈ l → x ∈ keep f l
  unfolding keep
  keep_in f {x} p (Memᴰ.head {x = y} {xs = t} e) = go (f y) (subst (λ (z : A). T (f z)) e p)
    where
      go : (b : Bool) → T b → x ∈ cond b (y ∷ keep f t) (keep f t)
      go true q = Memᴰ.head e
      go false q = absurd q
  keep_in f {x} p (Memᴰ.tail {x = y} {xs = t} m) = go (f y) (keep_in f p m)
    where
      go : (b : Bool) → x ∈ keep f t → x ∈ cond b (y ∷ keep f t) (keep f t)
      go true q = Memᴰ.tail q
      go false q = q

  pub keep_out : (f : A → Bool) {x : A} (l : List A) → x ∈ keep f l → (x ∈ l) × T (f x)
  unfolding keep
  keep_out f [] m = absurd (Memᴰ.not-nil m)
  keep_out f {x} (y ∷ t) m = go (f y) (test? (f y)) m (keep_out f t)
    where
      put : (x ∈ t) × T (f x) → (x ∈ (y ∷ t)) × T (f x)
      put h = (Memᴰ.tail h.0, h.1)

      go : (b : Bool) → Test (T (f y)) (T (not (f y))) b → x ∈ cond b (y ∷ keep f t) (keep f t) → (x ∈ keep f t → (x ∈ t) × T (f x)) → (x ∈ (y ∷ t)) × T (f x)
      go true (passed p) (Memᴰ.head e) rec = (Memᴰ.head e, subst (λ (z : A). T (f z)) (sym e) p)
      go true (passed p) (Memᴰ.tail k) rec = put (rec k)
      go false (failed p) k rec = put (rec k)

  pub keep_nil : (f : A → Bool) (l : List A) → ((x : A) → x ∈ l → T (not (f x))) → keep f l ≡ []
  unfolding keep
  keep_nil f [] h = refl
  keep_nil f (x ∷ l) h = go (f x) (h x (Memᴰ.head refl)) (keep_nil f l (λ y m. h y (Memᴰ.tail m)))
    where
      go : (b : Bool) → T (not b) → keep f l ≡ [] → cond b (x ∷ keep f l) (keep f l) ≡ []
      go true t e = absurd t
      go false t e = e

  pub any_in : (f : A → Bool) {x : A} {l : List A} → x ∈ l → T (f x) → T (any f l)
  unfolding any
  any_in f (Memᴰ.head {x = y} {xs = t} e) p = or_left (f y) (any f t) (subst (λ (z : A). T (f z)) e p)
  any_in f (Memᴰ.tail {x = y} {xs = t} m) p = or_right (f y) (any f t) (any_in f m p)

  pub any_out : (f : A → Bool) (l : List A) → T (any f l) → (x : A) × (x ∈ l) × T (f x)
  unfolding any
  any_out f [] t = absurd t
  any_out f (y ∷ l) t = go (or_out (f y) (any f l) t) (any_out f l)
    where
      go : T (f y) ⊎ T (any f l) → (T (any f l) → (x : A) × (x ∈ l) × T (f x)) → (x : A) × (x ∈ (y ∷ l)) × T (f x)
      go (inl p) rec = (y, Memᴰ.head refl, p)
      go (inr p) rec = let w = rec p in (w.0, Memᴰ.tail w.1, w.2)

  pub all_out : (f : A → Bool) {x : A} {l : List A} → T (all f l) → x ∈ l → T (f x)
  unfolding all
  all_out f t (Memᴰ.head {x = y} {xs = l} e) = subst (λ (z : A). T (f z)) (sym e) (and_out (f y) (all f l) t).0
  all_out f t (Memᴰ.tail {x = y} {xs = l} m) = all_out f (and_out (f y) (all f l) t).1 m

  pub all_in : (f : A → Bool) (l : List A) → ((x : A) → x ∈ l → T (f x)) → T (all f l)
  unfolding all
  all_in f [] h = tt
  all_in f (y ∷ l) h = and_in (f y) (all f l) (h y (Memᴰ.head refl)) (all_in f l (λ x m. h x (Memᴰ.tail m)))

  -- where not every element passes, one fails
  pub all_fails : (f : A → Bool) (l : List A) → T (not (all f l)) → (x : A) × (x ∈ l) × T (not (f x))
  unfolding all
  all_fails f [] t = absurd t
  all_fails f (y ∷ l) t = go (nand_out (f y) (all f l) t) (all_fails f l)
    where
      go : T (not (f y)) ⊎ T (not (all f l)) → (T (not (all f l)) → (x : A) × (x ∈ l) × T (not (f x))) → (x : A) × (x ∈ (y ∷ l)) × T (not (f x))
      go (inl p) rec = (y, Memᴰ.head refl, p)
      go (inr p) rec = let w = rec p in (w.0, Memᴰ.tail w.1, w.2)

  pub is_nil_no : {x : A} (l : List A) → x ∈ l → T (not (is_nil l))
  unfolding is_nil
  is_nil_no [] m = Memᴰ.not-nil m
  is_nil_no (y ∷ t) m = tt

  pub is_nil_yes : (l : List A) → T (is_nil l) → l ≡ []
  unfolding is_nil
  is_nil_yes [] t = refl
  is_nil_yes (x ∷ l) t = absurd t

  -- a list of length 0 is empty
  pub length_nil : (l : List A) → length l ≡ 0 → l ≡ []
  length_nil [] e = refl
  length_nil (x ∷ l) e = absurd (omega arith)

  pub is_nil_head : (l : List A) → T (not (is_nil l)) → (x : A) × (x ∈ l)
  unfolding is_nil
  is_nil_head [] t = absurd t
  is_nil_head (x ∷ l) t = (x, Memᴰ.head refl)

  -- what a choice by a test has
  pub cond_out : {P Q : Type 0} {x : A} {l m : List A} (t : Bool) → Test P Q t → x ∈ cond t l m → (P × (x ∈ l)) ⊎ (Q × (x ∈ m))
  cond_out true (passed p) h = inl (p, h)
  cond_out false (failed q) h = inr (q, h)

  pub cond_true : {P Q : Type 0} {x : A} {l : List A} (m : List A) (t : Bool) → Test P Q t → (Q → ⊥) → x ∈ l → x ∈ cond t l m
  cond_true m true (passed p) n h = h
  cond_true m false (failed q) n h = absurd (n q)

  pub cond_false : {P Q : Type 0} {x : A} (l : List A) {m : List A} (t : Bool) → Test P Q t → (P → ⊥) → x ∈ m → x ∈ cond t l m
  cond_false l true (passed p) n h = absurd (n p)
  cond_false l false (failed q) n h = h

module _ {A B : Type 0} where
  pub map_in : (f : A → B) {x : A} {l : List A} → x ∈ l → f x ∈ map f l
  map_in f (Memᴰ.head e) = Memᴰ.head (ap f e)
  map_in f (Memᴰ.tail m) = Memᴰ.tail (map_in f m)

  pub map_out : (f : A → B) {y : B} (l : List A) → y ∈ map f l → (x : A) × (x ∈ l) × (y ≡ f x)
  map_out f [] m = absurd (Memᴰ.not-nil m)
  map_out f {y} (x ∷ l) m = go m (map_out f l)
    where
      go : y ∈ (f x ∷ map f l) → (y ∈ map f l → (z : A) × (z ∈ l) × (y ≡ f z)) → (z : A) × (z ∈ (x ∷ l)) × (y ≡ f z)
      go (Memᴰ.head e) rec = (x, Memᴰ.head refl, e)
      go (Memᴰ.tail k) rec = let w = rec k in (w.0, Memᴰ.tail w.1, w.2)

  pub flat_map_in : (f : A → List B) {y : B} {x : A} {l : List A} → x ∈ l → y ∈ f x → y ∈ flat_map f l
  unfolding flat_map
  flat_map_in f {y} (Memᴰ.head {xs = t} e) h = Memᴰ.append_left (flat_map f t) (subst (λ z. y ∈ f z) e h)
  flat_map_in f (Memᴰ.tail {x = z} m) h = Memᴰ.append_right (f z) (flat_map_in f m h)

  pub flat_map_out : (f : A → List B) {y : B} (l : List A) → y ∈ flat_map f l → (x : A) × (x ∈ l) × (y ∈ f x)
  unfolding flat_map
  flat_map_out f [] h = absurd (Memᴰ.not-nil h)
  flat_map_out f {y} (z ∷ t) h = go (Memᴰ.append_cases (f z) h) (flat_map_out f t)
    where
      go : y ∈ f z ⊎ y ∈ flat_map f t → (y ∈ flat_map f t → (x : A) × (x ∈ t) × (y ∈ f x)) → (x : A) × (x ∈ (z ∷ t)) × (y ∈ f x)
      go (inl m) rec = (z, Memᴰ.head refl, m)
      go (inr m) rec = let w = rec m in (w.0, Memᴰ.tail w.1, w.2)
