-- Totals of totals: sums in either order, and the elements that pass two tests, counted by either test first.
use mathlib.Core.Path.{◌≡◌, refl, sym, ◌∙◌}
use mathlib.Core.Bool.{Bool, true, false, cond}
use mathlib.Core.List.Memᴰ
use mathlib.Core.List.{List, [], ◌∷◌}
use Prim.Native.Nat.{ℕ, ◌+◌, ◌≤◌}
use native.Mathlib.Omega.{arith}
use Rattle.lists.specs.Lists.{◌∈◌, keep}
use Rattle.reach.proofs.Totals.{total, total_agree}

-- 1 where a test passes, else 0
abbrev pub counted : Bool → ℕ
counted b = cond b 1 0

module _ {A : Type 0} where
  -- a function that is 0 on the elements has total 0
  pub total-none : (f : A → ℕ) (l : List A) → ((x : A) → x ∈ l → f x ≡ 0) → total f l ≡ 0
  total-none f [] e = refl
  total-none f (x ∷ l) e = omega (arith, e x (Memᴰ.head refl), total-none f l (λ y m. e y (Memᴰ.tail m)))

  -- the total of a sum is the sum of the totals
  pub total_sum : (f h : A → ℕ) (l : List A) → total (λ x. f x + h x) l ≡ total f l + total h l
  total_sum f h [] = refl
  total_sum f h (x ∷ l) = omega (arith, total_sum f h l)

  -- no element has more than the total
  pub total_element : (f : A → ℕ) {x : A} (l : List A) → x ∈ l → f x ≤ total f l
  total_element f l (Memᴰ.head {xs = t} e) = rw e (omega arith)
  total_element f l (Memᴰ.tail {x = y} {xs = t} m) = omega (arith, total_element f t m)

  -- the total of what a test keeps: the elements that it leaves out add nothing
  pub total-keep : (f : A → ℕ) (p : A → Bool) (l : List A) → total f (keep p l) ≡ total (λ x. cond (p x) (f x) 0) l
  unfolding keep
  total-keep f p [] = refl
  total-keep f p (x ∷ l) = go (p x) (total-keep f p l)
    where
      go : (b : Bool) → total f (keep p l) ≡ total (λ y. cond (p y) (f y) 0) l
          → total f (cond b (x ∷ keep p l) (keep p l)) ≡ cond b (f x) 0 + total (λ y. cond (p y) (f y) 0) l
      go true e = omega (arith, e)
      go false e = omega (arith, e)

  -- the elements that pass two tests are as many whichever test comes first
  pub total_both : (p q : A → Bool) (l : List A) → total (λ x. counted (q x)) (keep p l) ≡ total (λ x. counted (p x)) (keep q l)
  total_both p q l =
      total-keep (λ x. counted (q x)) p l
      ∙ total_agree (λ x. cond (p x) (counted (q x)) 0) (λ x. cond (q x) (counted (p x)) 0) l (λ x m. turned (p x) (q x))
      ∙ sym (total-keep (λ x. counted (p x)) q l)
    where
      turned : (s t : Bool) → cond s (counted t) 0 ≡ cond t (counted s) 0
      turned true true = refl
      turned true false = refl
      turned false true = refl
      turned false false = refl

-- the total over two lists is the same in either order
pub total_swap : {A B : Type 0} (f : A → B → ℕ) (k : List A) (l : List B) → total (λ x. total (f x) l) k ≡ total (λ y. total (λ x. f x y) k) l
total_swap f [] l = sym (total-none (λ y. 0) l (λ y m. refl))
total_swap f (x ∷ k) l = omega (arith, total_swap f k l, total_sum (f x) (λ y. total (λ z. f z y) k) l)
