-- One turn of the pass.
use mathlib.Core.Path.{◌≡◌, refl}
use mathlib.Core.Bool.{true, false}
use mathlib.Core.List.{List, [], ◌∷◌, map}
use Prim.Native.Nat.{ℕ, ◌+◌, ◌≤◌, ◌<◌}
use lib.IntN.{ℤ}
use Rattle.sorting.specs.Rows.{row_at, rows_from}
use Rattle.sorting.proofs.Tables.{rows_from_more, rows_from_none}
use Rattle.model.specs.Bitmapping.{Record}
use Rattle.model.specs.Verdicts.{contained}
use Rattle.normalisation.specs.Merging.{of_displacement}
use Rattle.containment.specs.Containing.{contains_all}

-- of the first n rows by displacement of t the records of those from row i on
abbrev pub displaced_from : List ℤ → ℕ → ℕ → List Record
displaced_from t i n = map of_displacement (rows_from t i n)

module _ (a b : List ℤ) (m n i j : ℕ) where
  -- a record that is contained is done with
  pub contains_all-inside : i < m → j < n → contained (of_displacement (row_at b j)) (of_displacement (row_at a i)) ≡ true
      → contains_all (displaced_from a i m) (displaced_from b j n) ≡ contains_all (displaced_from a i m) (displaced_from b (j + 1) n)
  unfolding contains_all
  contains_all-inside h k e = rw (rows_from_more a i m h, rows_from_more b j n k, e) refl

  -- one that does not contain it is
  pub contains_all-past : i < m → j < n → contained (of_displacement (row_at b j)) (of_displacement (row_at a i)) ≡ false
      → contains_all (displaced_from a i m) (displaced_from b j n) ≡ contains_all (displaced_from a (i + 1) m) (displaced_from b j n)
  unfolding contains_all
  contains_all-past h k e = rw (rows_from_more a i m h, rows_from_more b j n k, e) refl

  -- where none is left that may contain it, it is not contained
  pub contains_all-none : m ≤ i → j < n → contains_all (displaced_from a i m) (displaced_from b j n) ≡ false
  unfolding contains_all
  contains_all-none h k = rw (rows_from_none a i m h, rows_from_more b j n k) refl

-- nothing is left that must be contained
contains_all_nil : (l : List Record) → contains_all l [] ≡ true
unfolding contains_all
contains_all_nil [] = refl
contains_all_nil (s ∷ l) = refl

pub contains_all_end : (a b : List ℤ) (m n i j : ℕ) → n ≤ j → contains_all (displaced_from a i m) (displaced_from b j n) ≡ true
contains_all_end a b m n i j h = rw (rows_from_none b j n h) (contains_all_nil (displaced_from a i m))
