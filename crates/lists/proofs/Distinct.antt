-- Lists in which no element stands twice: what keep, map, append and flat_map leave so, and how long such a list can be.
use mathlib.Core.Path.{◌≡◌, refl, sym, ap, subst, ◌∙◌}
use mathlib.Core.Bool.{Bool, true, false, cond}
use mathlib.Core.List.Memᴰ
use mathlib.Core.List.{List, [], ◌∷◌, ◌++◌, append_assoc, map, flat_map}
use mathlib.Core.Logic.{◌⊎◌, inl, inr, ⊎_elim}
use Prim.Native.Nat.{suc, ◌≤◌}
use native.Mathlib.Omega.{arith}
use lib.ListN.{length, length-append}
use Rattle.lists.specs.Lists.{◌∈◌, keep, Distinct, none, more}
use Rattle.lists.proofs.Membership.{keep_out, map_out, flat_map_out}

module _ {A : Type 0} where
  -- the list without one element x of it
  record Removed (x : A) (l : List A) : Type 0 where
    rest : List A
    shorter : length l ≡ suc (length rest)
    others : (y : A) → y ∈ l → (y ≡ x) ⊎ (y ∈ rest)

  removed : {x : A} {l : List A} → x ∈ l → Removed x l
  removed {x} (Memᴰ.head {x = z} {xs = t} e) =
      record { rest = t; shorter = refl; others = λ y n. ⊎_elim (λ q. inl (q ∙ sym e)) inr (Memᴰ.cases_cons n) }
  removed {x} (Memᴰ.tail {x = z} {xs = t} m) = put (removed m)
    where
      put : Removed x t → Removed x (z ∷ t)
      put w =
          record {
            rest = z ∷ w.rest;
            shorter = omega (arith, w.shorter);
            others = λ y n. ⊎_elim (λ q. inr (Memᴰ.head q)) (λ k. ⊎_elim inl (λ j. inr (Memᴰ.tail j)) (w.others y k))
                (Memᴰ.cases_cons n);
          }

  -- a list without repetition, all of whose elements a second list has, is no longer than the second
  pub distinct_length : {xs : List A} → Distinct xs → (ys : List A) → ((x : A) → x ∈ xs → x ∈ ys) → length xs ≤ length ys
  distinct_length none ys h = omega arith
  distinct_length (more {x} {l} new d) ys h =
      let w = removed (h x (Memᴰ.head refl)) in
      let k = distinct_length d w.rest (λ y m. ⊎_elim (λ q. absurd (new (Memᴰ.cast (sym q) m))) (λ j. j) (w.others y (h y (Memᴰ.tail m)))) in
      omega (arith, k, w.shorter)

  -- where the second is no longer either, each has the elements of the other, and no element stands twice in the second
  module _ {xs : List A} (once : Distinct xs) (ys : List A) (each : (x : A) → x ∈ xs → x ∈ ys) (few : length ys ≤ length xs) where
    pub distinct_covers : (y : A) → y ∈ ys → y ∈ xs
    distinct_covers y m = covers once ys each few y m
      where
        covers : {xs : List A} → Distinct xs → (ys : List A) → ((x : A) → x ∈ xs → x ∈ ys) → length ys ≤ length xs → (y : A) → y ∈ ys → y ∈ xs
        covers none [] h k y m = m
        covers none (z ∷ ys) h k y m = absurd (omega arith)
        covers (more {x} {l} new d) ys h k y m =
            let w = removed (h x (Memᴰ.head refl)) in
            let rest : (z : A) → z ∈ l → z ∈ w.rest =
            λ z j. ⊎_elim (λ q. absurd (new (Memᴰ.cast (sym q) j))) (λ i. i) (w.others z (h z (Memᴰ.tail j))) in
            ⊎_elim (λ q. Memᴰ.head q) (λ j. Memᴰ.tail (covers d w.rest rest (omega (arith, w.shorter)) y j)) (w.others y m)

    pub distinct-covered : Distinct ys
    distinct-covered = behind [] ys refl
      where
        behind : (p q : List A) → p ++ q ≡ ys → Distinct q
        behind p [] e = none
        behind p (y ∷ q) e = more (λ m. twice m) (behind (p ++ (y ∷ [])) q (append_assoc p (y ∷ []) q ∙ e))
          where
            twice : y ∈ q → ⊥
            twice m = omega (arith, distinct_length once (p ++ q) still, length-append p q, ap length e, length-append p (y ∷ q))
              where
                still : (x : A) → x ∈ xs → x ∈ p ++ q
                still x k =
                    ⊎_elim (Memᴰ.append_left q) (λ j. Memᴰ.append_right p (⊎_elim (λ i. Memᴰ.cast i m) (λ i. i) (Memᴰ.cases_cons j)))
                    (Memᴰ.append_cases p (subst (λ (z : List A). x ∈ z) (sym e) (each x k)))

  -- what a test keeps of a list without repetition
  pub keep-distinct : (f : A → Bool) {l : List A} → Distinct l → Distinct (keep f l)
  unfolding keep
  keep-distinct f none = none
  keep-distinct f (more {x} {l} new d) = go (f x) (keep-distinct f d)
    where
      go : (b : Bool) → Distinct (keep f l) → Distinct (cond b (x ∷ keep f l) (keep f l))
      go true k = more (λ m. new (keep_out f l m).0) k
      go false k = k

  -- the front of a list without repetition
  pub front-distinct : (xs ys : List A) → Distinct (xs ++ ys) → Distinct xs
  front-distinct [] ys d = none
  front-distinct (x ∷ xs) ys (more new d) = more (λ m. new (Memᴰ.append_left ys m)) (front-distinct xs ys d)

  -- one of two lists without repetition
  pub cond_distinct : {xs ys : List A} (t : Bool) → Distinct xs → Distinct ys → Distinct (cond t xs ys)
  cond_distinct true c d = c
  cond_distinct false c d = d

  -- two lists without repetition that share no element, one after the other
  pub append_distinct : {xs ys : List A} → Distinct xs → Distinct ys → ((x : A) → x ∈ xs → x ∈ ys → ⊥) → Distinct (xs ++ ys)
  append_distinct none d apart = d
  append_distinct (more {x} {l} new c) d apart =
      more (λ m. ⊎_elim new (apart x (Memᴰ.head refl)) (Memᴰ.append_cases l m)) (append_distinct c d (λ y m. apart y (Memᴰ.tail m)))

module _ {A B : Type 0} where
  -- the images of a list without repetition, where the function takes no two elements of it to one
  pub map_distinct : (f : A → B) {l : List A} → ((x y : A) → x ∈ l → y ∈ l → f x ≡ f y → x ≡ y) → Distinct l → Distinct (map f l)
  map_distinct f once none = none
  map_distinct f once (more {x} {l} new d) =
      more (λ m. let w = map_out f l m in new (Memᴰ.cast (once x w.0 (Memᴰ.head refl) (Memᴰ.tail w.1) w.2) w.1))
      (map_distinct f (λ y z m n. once y z (Memᴰ.tail m) (Memᴰ.tail n)) d)

  -- the lists of a list without repetition, where each is without repetition and no two of them share an element
  pub flat_map_distinct : (f : A → List B) → ((x : A) → Distinct (f x)) → {l : List A}
      → ((x z : A) → x ∈ l → z ∈ l → (y : B) → y ∈ f x → y ∈ f z → x ≡ z) → Distinct l → Distinct (flat_map f l)
  unfolding flat_map
  flat_map_distinct f each apart none = none
  flat_map_distinct f each apart (more {x} {l} new d) =
      append_distinct (each x) (flat_map_distinct f each (λ y z m n. apart y z (Memᴰ.tail m) (Memᴰ.tail n)) d)
      (λ y m n.
      let w = flat_map_out f l n in
      new (Memᴰ.cast (apart x w.0 (Memᴰ.head refl) (Memᴰ.tail w.1) y m w.2) w.1))
