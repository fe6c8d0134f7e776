-- What two tests keep of one list, and what a test keeps of the images of a list.
use mathlib.Core.Path.{◌≡◌, refl, ap, ◌∙◌}
use mathlib.Core.Bool.{Bool, true, false, not, cond}
use mathlib.Core.List.Memᴰ
use mathlib.Core.List.{List, [], ◌∷◌, ◌++◌, map, append-nil}
use Prim.Native.Nat.{suc, ◌+◌, ◌≤◌}
use native.Mathlib.Omega.{arith}
use lib.ListN.{length}
use Rattle.lists.specs.Lists.{◌∈◌, keep}
use Rattle.lists.proofs.Kept.{keep_length, keep_append}

module _ {A : Type 0} where
  -- a list of no length has no element
  pub length_none : (l : List A) → length l ≤ 0 → l ≡ []
  length_none [] h = refl
  length_none (x ∷ l) h = absurd (omega arith)

  -- what a test keeps and what its denial keeps are together as many as there are
  pub keep_both_length : (f : A → Bool) (l : List A) → length (keep f l) + length (keep (λ x. not (f x)) l) ≡ length l
  unfolding keep
  keep_both_length f [] = refl
  keep_both_length f (x ∷ l) = go (f x) (keep_both_length f l)
    where
      go : (b : Bool) → length (keep f l) + length (keep (λ y. not (f y)) l) ≡ length l
          → length (cond b (x ∷ keep f l) (keep f l)) + length (cond (not b) (x ∷ keep (λ y. not (f y)) l) (keep (λ y. not (f y)) l)) ≡ suc (length l)
      go true e = omega arith
      go false e = omega arith

  -- a test that keeps as many as there are keeps all
  pub keep_all : (f : A → Bool) (l : List A) → length l ≤ length (keep f l) → keep f l ≡ l
  unfolding keep
  keep_all f [] h = refl
  keep_all f (x ∷ l) h = go (f x) h (keep_all f l)
    where
      go : (b : Bool) → suc (length l) ≤ length (cond b (x ∷ keep f l) (keep f l)) → (length l ≤ length (keep f l) → keep f l ≡ l)
          → cond b (x ∷ keep f l) (keep f l) ≡ x ∷ l
      go true k rec = ap {B = List A} (λ t. x ∷ t) (rec (omega arith))
      go false k rec = absurd (omega (arith, keep_length f l))

  -- tests that agree on the elements of a list keep the same
  pub keep_agree : (f g : A → Bool) (l : List A) → ((x : A) → x ∈ l → f x ≡ g x) → keep f l ≡ keep g l
  unfolding keep
  keep_agree f g [] h = refl
  keep_agree f g (x ∷ l) h = rw (h x (Memᴰ.head refl), keep_agree f g l (λ y m. h y (Memᴰ.tail m)))

  -- one element more, which passes
  pub keep_pass : (f : A → Bool) (l : List A) (x : A) → f x ≡ true → keep f (l ++ (x ∷ [])) ≡ keep f l ++ (x ∷ [])
  unfolding keep
  keep_pass f l x e = keep_append f l (x ∷ []) ∙ ap (λ b. keep f l ++ cond b (x ∷ []) []) e

  -- one element more, which fails
  pub keep_fail : (f : A → Bool) (l : List A) (x : A) → f x ≡ false → keep f (l ++ (x ∷ [])) ≡ keep f l
  unfolding keep
  keep_fail f l x e = keep_append f l (x ∷ []) ∙ ap (λ b. keep f l ++ cond b (x ∷ []) []) e ∙ append-nil (keep f l)

-- what a test keeps of the images of a list
pub keep_map : {A B : Type 0} (f : B → Bool) (h : A → B) (l : List A) → keep f (map h l) ≡ map h (keep (λ x. f (h x)) l)
unfolding keep
keep_map f h [] = refl
keep_map {B = B} f h (x ∷ l) = go (f (h x)) (keep_map f h l)
  where
    go : (b : Bool) → keep f (map h l) ≡ map h (keep (λ y. f (h y)) l)
        → cond b (h x ∷ keep f (map h l)) (keep f (map h l)) ≡ map h (cond b (x ∷ keep (λ y. f (h y)) l) (keep (λ y. f (h y)) l))
    go true e = ap {B = List B} (λ t. h x ∷ t) e
    go false e = e
