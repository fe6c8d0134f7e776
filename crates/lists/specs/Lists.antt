-- Operations and statements on lists that the definitions of the model share. Assumes nothing.
use Rattle.std.specs.Prelude.{Bool, true, false, cond, ◌&&◌, ◌||◌}
use mathlib.Core.List.{List, [], ◌∷◌, Memᴰ}

infix 40 ◌∈◌
-- x is an element of the list (the library's membership)
abbrev pub ◌∈◌ {ℓ} : {A : Type ℓ} → A → List A → Type ℓ
x ∈ l = Memᴰ x l

module _ {A : Type 0} where
  -- the elements that pass the test, in order
  unfoldable pub keep : (A → Bool) → List A → List A
  keep ok [] = []
  keep ok (x ∷ xs) = cond (ok x) (x ∷ keep ok xs) (keep ok xs)

  -- some element passes the test
  unfoldable pub any : (A → Bool) → List A → Bool
  any ok [] = false
  any ok (x ∷ xs) = let r = any ok xs in ok x || r

  -- every element passes the test
  unfoldable pub all : (A → Bool) → List A → Bool
  all ok [] = true
  all ok (x ∷ xs) = let r = all ok xs in ok x && r

  -- the list has no element
  unfoldable pub is_nil : List A → Bool
  is_nil [] = true
  is_nil (x ∷ xs) = false

  -- no element stands twice
  pub data Distinct : List A → Type 0 where
    none : Distinct []
    more : {x : A} {l : List A} → (x ∈ l → ⊥) → Distinct l → Distinct (x ∷ l)
