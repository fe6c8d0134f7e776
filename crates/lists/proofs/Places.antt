-- What stands at a place of a list, and of its images.
use mathlib.Core.Path.{◌≡◌, refl}
use mathlib.Core.List.Memᴰ
use mathlib.Core.List.{List, [], ◌∷◌, map}
use Prim.Native.Nat.{ℕ, zero, suc, ◌<◌}
use native.Mathlib.Omega.{arith}
use lib.ListN.{length, get_or}
use Rattle.lists.specs.Lists.{◌∈◌}

-- what stands at a place within a list is a member
pub get_d_in : {A : Type 0} (l : List A) (i : ℕ) (d : A) → i < length l → get_or l i d ∈ l
get_d_in [] i d h = absurd (omega arith)
get_d_in (x ∷ l) zero d h = Memᴰ.head refl
get_d_in (x ∷ l) (suc i) d h = Memᴰ.tail (get_d_in l i d (omega arith))

module _ {A B : Type 0} where
  -- what stands at a place of the images of a list, whatever stands for what is not there
  pub map_at : (f : A → B) (l : List A) (i : ℕ) (b : B) (a : A) → i < length l → get_or (map f l) i b ≡ f (get_or l i a)
  map_at f [] i b a h = absurd (omega arith)
  map_at f (x ∷ l) zero b a h = refl
  map_at f (x ∷ l) (suc i) b a h = map_at f l i b a (omega arith)

  -- two functions that agree on a list have the same images of it
  pub map_same : (f g : A → B) (l : List A) → ((x : A) → x ∈ l → f x ≡ g x) → map f l ≡ map g l
  map_same f g [] h = refl
  map_same f g (x ∷ l) h = cc (h x (Memᴰ.head refl), map_same f g l (λ y m. h y (Memᴰ.tail m)))
