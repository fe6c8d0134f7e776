-- What a test keeps of a list: how long it is, and what it keeps of lists one after the other.
use mathlib.Core.Path.{◌≡◌, refl, ap}
use mathlib.Core.Bool.{Bool, true, false, cond}
use mathlib.Core.List.{List, [], ◌∷◌, ◌++◌, map, map-append, flat_map}
use Prim.Native.Nat.{suc, ◌≤◌}
use native.Mathlib.Omega.{arith}
use lib.ListN.{length}
use Rattle.lists.specs.Lists.{keep}

module _ {A : Type 0} where
  -- no more are kept than there are
  pub keep_length : (f : A → Bool) (l : List A) → length (keep f l) ≤ length l
  unfolding keep
  keep_length f [] = omega arith
  keep_length f (x ∷ l) = go (f x) (keep_length f l)
    where
      go : (b : Bool) → length (keep f l) ≤ length l → length (cond b (x ∷ keep f l) (keep f l)) ≤ suc (length l)
      go true h = omega arith
      go false h = omega arith

  -- what is kept of two lists, one after the other
  pub keep_append : (f : A → Bool) (k l : List A) → keep f (k ++ l) ≡ keep f k ++ keep f l
  unfolding keep
  keep_append f [] l = refl
  keep_append f (x ∷ k) l = go (f x) (keep_append f k l)
    where
      go : (b : Bool) → keep f (k ++ l) ≡ keep f k ++ keep f l
          → cond b (x ∷ keep f (k ++ l)) (keep f (k ++ l)) ≡ cond b (x ∷ keep f k) (keep f k) ++ keep f l
      go true e = ap {B = List A} (λ t. x ∷ t) e
      go false e = e

-- what is kept of the images of many lists, one after the other
pub keep_flat_map : {A B C : Type 0} (f : C → Bool) (h : B → C) (lists : A → List B) (l : List A)
    → keep f (map h (flat_map lists l)) ≡ flat_map (λ x. keep f (map h (lists x))) l
unfolding flat_map keep
keep_flat_map f h lists [] = refl
keep_flat_map f h lists (x ∷ l) = rw (map-append, keep_append) (ap (λ t. keep f (map h (lists x)) ++ t) (keep_flat_map f h lists l))
