-- Lists in reverse: their elements, their images, and that none stands twice.
use mathlib.Core.Path.{◌≡◌, refl, sym}
use mathlib.Core.List.Memᴰ
use mathlib.Core.List.{List, [], ◌∷◌, map, reverse_aux, reverse}
use mathlib.Core.Logic.{◌⊎◌, inl, inr, ⊎_elim}
use Rattle.lists.specs.Lists.{◌∈◌, Distinct, none, more}

-- images in reverse
map_reverse_aux : {A B : Type 0} (f : A → B) (l r : List A) → map f (reverse_aux l r) ≡ reverse_aux (map f l) (map f r)
map_reverse_aux f [] r = refl
map_reverse_aux f (x ∷ l) r = map_reverse_aux f l (x ∷ r)

pub map_reverse : {A B : Type 0} (f : A → B) (l : List A) → map f (reverse l) ≡ reverse (map f l)
map_reverse f l = map_reverse_aux f l []

module _ {A : Type 0} where
  reverse_aux_in : {x : A} (l r : List A) → (x ∈ l) ⊎ (x ∈ r) → x ∈ reverse_aux l r
  reverse_aux_in [] r m = ⊎_elim (λ k. absurd (Memᴰ.not-nil k)) (λ k. k) m
  reverse_aux_in (y ∷ l) r m =
      reverse_aux_in l (y ∷ r)
      (⊎_elim (λ k. ⊎_elim (λ e. inr (Memᴰ.head e)) inl (Memᴰ.cases_cons k)) (λ k. inr (Memᴰ.tail k)) m)

  -- each element of a list is one of its reverse
  pub reverse_in : {x : A} (l : List A) → x ∈ l → x ∈ reverse l
  reverse_in l m = reverse_aux_in l [] (inl m)

  reverse_aux_out : {x : A} (l r : List A) → x ∈ reverse_aux l r → (x ∈ l) ⊎ (x ∈ r)
  reverse_aux_out [] r m = inr m
  reverse_aux_out (y ∷ l) r m =
      ⊎_elim (λ k. inl (Memᴰ.tail k)) (λ k. ⊎_elim (λ e. inl (Memᴰ.head e)) inr (Memᴰ.cases_cons k)) (reverse_aux_out l (y ∷ r) m)

  -- and the other way round
  pub reverse_out : {x : A} (l : List A) → x ∈ reverse l → x ∈ l
  reverse_out l m = ⊎_elim (λ k. k) (λ k. absurd (Memᴰ.not-nil k)) (reverse_aux_out l [] m)

  reverse_aux_distinct : {l r : List A} → Distinct l → Distinct r → ((x : A) → x ∈ l → x ∈ r → ⊥) → Distinct (reverse_aux l r)
  reverse_aux_distinct none e apart = e
  reverse_aux_distinct (more {x} {l} new d) e apart =
      reverse_aux_distinct d (more (apart x (Memᴰ.head refl)) e)
      (λ y m k. ⊎_elim (λ q. new (Memᴰ.cast (sym q) m)) (apart y (Memᴰ.tail m)) (Memᴰ.cases_cons k))

  -- no element of the reverse stands twice where none of the list does
  pub reverse_distinct : {l : List A} → Distinct l → Distinct (reverse l)
  reverse_distinct d = reverse_aux_distinct d none (λ x m k. Memᴰ.not-nil k)
