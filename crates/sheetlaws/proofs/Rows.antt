-- Rows of a table that is written element by element: one row for each element of a list, counted up from a first row.
use mathlib.Core.Path.{◌≡◌, refl, sym, ap, ◌∙◌}
use mathlib.Core.List.Memᴰ
use mathlib.Core.List.{List, [], ◌∷◌, ◌++◌, flat_map, append-nil, append_assoc}
use Prim.Native.Nat.{ℕ, zero, suc, ◌+◌, ◌*◌, ◌<◌}
use native.Mathlib.Omega.{arith}
use lib.IntN.{ℤ}
use lib.ListN.{length, get_or, length-append}
use Rattle.lists.specs.Lists.{◌∈◌}

module _ {A R : Type 0} (row : ℕ → A → R) where
  -- the rows of the elements of a list, the first of them row i
  unfoldable pub counted : ℕ → List A → List R
  counted i [] = []
  counted i (x ∷ xs) = row i x ∷ counted (suc i) xs

  -- one row for each element
  pub counted_length : (i : ℕ) (xs : List A) → length (counted i xs) ≡ length xs
  unfolding counted
  counted_length i [] = refl
  counted_length i (x ∷ xs) = ap suc (counted_length (suc i) xs)

  -- the row at a place is that of the element at the place, whatever stands for what is not there
  pub counted-at : (i : ℕ) (xs : List A) (k : ℕ) (d : R) (a : A) → k < length xs → get_or (counted i xs) k d ≡ row (i + k) (get_or xs k a)
  unfolding counted
  counted-at i [] k d a h = absurd (omega arith)
  counted-at i (x ∷ xs) zero d a h = let e : i ≡ i + 0 = omega arith in ap (λ j. row j x) e
  counted-at i (x ∷ xs) (suc k) d a h =
      let e : suc i + k ≡ i + suc k = omega arith in
      counted-at (suc i) xs k d a (omega arith) ∙ ap (λ j. row j (get_or xs k a)) e

  -- each row is that of an element
  pub counted_out : (i : ℕ) (xs : List A) {r : R} → r ∈ counted i xs → (k : ℕ) × (x : A) × (x ∈ xs) × (r ≡ row k x)
  unfolding counted
  counted_out i [] m = absurd (Memᴰ.not-nil m)
  counted_out i (x ∷ xs) {r} m = go m (counted_out (suc i) xs)
    where
      go : r ∈ (row i x ∷ counted (suc i) xs) → (r ∈ counted (suc i) xs → (k : ℕ) × (z : A) × (z ∈ xs) × (r ≡ row k z))
          → (k : ℕ) × (z : A) × (z ∈ (x ∷ xs)) × (r ≡ row k z)
      go (Memᴰ.head e) rec = (i, x, Memᴰ.head refl, e)
      go (Memᴰ.tail n) rec = let w = rec n in (w.0, w.1, Memᴰ.tail w.2, w.3)

  -- each element has its row
  pub counted_in : {x : A} {xs : List A} (i : ℕ) → x ∈ xs → (k : ℕ) × (row k x ∈ counted i xs)
  unfolding counted
  counted_in i (Memᴰ.head e) = (i, Memᴰ.head (ap (row i) e))
  counted_in i (Memᴰ.tail m) = let w = counted_in (suc i) m in (w.0, Memᴰ.tail w.1)

-- rows_from i reads the rows of a table, the first of them row i; the numbers of an element are read as its row
module _ {A R : Type 0} (rows_from : ℕ → List ℤ → List R) (row : ℕ → A → R) (numbers : A → List ℤ)
    (read : (i : ℕ) (x : A) (rest : List ℤ) → rows_from i (numbers x ++ rest) ≡ row i x ∷ rows_from (suc i) rest)
  where
    -- the rows of a table that begins with the numbers of a list's elements
    pub rows-read : (i : ℕ) (xs : List A) (rest : List ℤ)
        → rows_from i (flat_map numbers xs ++ rest) ≡ counted row i xs ++ rows_from (i + length xs) rest
    unfolding flat_map counted
    rows-read i [] rest = let e : i ≡ i + 0 = omega arith in ap (λ j. rows_from j rest) e
    rows-read i (x ∷ xs) rest =
        let e : suc i + length xs ≡ i + suc (length xs) = omega arith in
        ap (rows_from i) (append_assoc (numbers x) (flat_map numbers xs) rest)
        ∙ read i x (flat_map numbers xs ++ rest)
        ∙ ap (λ t. row i x ∷ t) (rows-read (suc i) xs rest ∙ ap (λ j. counted row (suc i) xs ++ rows_from j rest) e)

    -- the rows of a table that has nothing else
    pub rows_all : ((i : ℕ) → rows_from i [] ≡ []) → (i : ℕ) (xs : List A) → rows_from i (flat_map numbers xs) ≡ counted row i xs
    rows_all none i xs =
        ap (rows_from i) (sym (append-nil (flat_map numbers xs)))
        ∙ rows-read i xs []
        ∙ ap (λ t. counted row i xs ++ t) (none (i + length xs))
        ∙ append-nil (counted row i xs)

-- a table of as many numbers for each element
pub written_length : {A : Type 0} (width : ℕ) (numbers : A → List ℤ) → ((x : A) → length (numbers x) ≡ width) → (xs : List A)
    → length (flat_map numbers xs) ≡ width * length xs
unfolding flat_map
written_length width numbers each [] = omega arith
written_length width numbers each (x ∷ xs) =
    omega (arith, length-append (numbers x) (flat_map numbers xs), each x, written_length width numbers each xs)
