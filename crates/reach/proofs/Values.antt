-- Lists of the first values of a function: their length, their elements, and a buffer that holds them in front.
use mathlib.Core.Path.{◌≡◌, refl, sym, ap, ◌∙◌}
use mathlib.Core.Bool.{Bool, true, false}
use mathlib.Core.List.{List, [], ◌∷◌, ◌++◌, map}
use Prim.Native.Nat.{ℕ, zero, suc, ◌≤◌, ◌<◌}
use native.Mathlib.Omega.{arith}
use lib.Dec.{ltb}
use lib.ListN.{length, get_or, take, drop, length-append, take-append-drop, get_or-append}
use lib.Seq.{get_or_at, ext_get_or, length-take-le, get_or-take}
use Rattle.integers.proofs.Tests.{Test, passed, failed, ltb?}
use Rattle.lists.proofs.Places as places
use Rattle.reach.specs.Counting.{values_of}

module _ {A : Type 0} where
  -- there are n of them
  pub values_length : (f : ℕ → A) (n : ℕ) → length (values_of f n) ≡ n
  unfolding values_of
  values_length f zero = refl
  values_length f (suc n) = omega (arith, length-append (values_of f n) (f n ∷ []), values_length f n)

  -- at each place stands the function's value
  pub values-at : (f : ℕ → A) (d : A) (n i : ℕ) → i < n → get_or (values_of f n) i d ≡ f i
  unfolding values_of
  values-at f d zero i h = absurd (omega arith)
  values-at f d (suc n) i h = go (ltb i n) (ltb? i n) (values-at f d n i)
    where
      go : (t : Bool) → Test (i < n) (n ≤ i) t → (i < n → get_or (values_of f n) i d ≡ f i) → get_or (values_of f n ++ (f n ∷ [])) i d ≡ f i
      go true (passed k) rec = get_or-append (values_of f n) (f n ∷ []) d i (omega (arith, values_length f n)) ∙ rec k
      go false (failed k) rec =
          let e : i ≡ n = omega arith in
          get_or_at (values_of f n) (f n) [] d i (values_length f n ∙ sym e) ∙ ap f (sym e)

  -- also where more stands behind them
  pub values-before : (f : ℕ → A) (d : A) (n : ℕ) (rest : List A) (i : ℕ) → i < n → get_or (values_of f n ++ rest) i d ≡ f i
  values-before f d n rest i h = get_or-append (values_of f n) rest d i (omega (arith, values_length f n)) ∙ values-at f d n i h

  -- a list that agrees with a second at each place of the second begins with it
  pub front_same : (d : A) (l front : List A) (n : ℕ) → length front ≡ n → n ≤ length l → ((i : ℕ) → i < n → get_or l i d ≡ get_or front i d)
      → l ≡ front ++ drop n l
  front_same d l front n e h same =
      sym (take-append-drop n l)
      ∙ ap (λ t. t ++ drop n l)
      (ext_get_or d (take n l) front (length-take-le n l h ∙ sym e)
      (λ i k. let j : i < n = omega (arith, k, length-take-le n l h) in get_or-take n l i d j ∙ same i j))

  -- a list whose first n elements are the function's values begins with them
  pub values-front : (f : ℕ → A) (d : A) (n : ℕ) (l : List A) → n ≤ length l → ((i : ℕ) → i < n → get_or l i d ≡ f i) → l ≡ values_of f n ++ drop n l
  values-front f d n l h e = front_same d l (values_of f n) n (values_length f n) h (λ i k. e i k ∙ sym (values-at f d n i k))

-- what stands at a place of the images of a list: crate lists has the law
pub map_at : {A B : Type 0} (f : A → B) (l : List A) (i : ℕ) (b : B) (a : A) → i < length l → get_or (map f l) i b ≡ f (get_or l i a)
map_at = places.map_at
