-- Stores into a list one after the other, and the elements that a loop has passed.
use mathlib.Core.Path.{◌≡◌, refl, sym, ap, subst, ◌∙◌}
use mathlib.Core.Bool.{Bool, true, false}
use mathlib.Core.List.{List, [], ◌∷◌, ◌++◌, append-nil}
use Prim.Native.Nat.{ℕ, zero, suc, ◌+◌, ◌≤◌, ◌<◌}
use native.Mathlib.Nat.{add-zero}
use native.Mathlib.Numerals.{add-one}
use native.Mathlib.Omega.{arith}
use lib.Dec.{ltb}
use lib.ListN.{length, get_or, set, take, drop, replicate, length-append, get_or-append}
use lib.Seq.{sets, sets-eq, get_or-set_other, take-suc, get_or-take, length-take-le, take_at, get_or_at}
use Rattle.std.proofs.lemmas.List.{drop_all}
use Rattle.integers.proofs.Tests.{Test, passed, failed, ltb?}
use Rattle.lists.specs.Lists.{◌∈◌}
use Rattle.lists.proofs.Places.{get_d_in}
use Rattle.depth.specs.Passes.{up_to}

module _ {A : Type 0} where
  -- some stores, then others behind them
  pub sets_append : (l : List A) (i : ℕ) (xs ys : List A) → sets (sets l i xs) (i + length xs) ys ≡ sets l i (xs ++ ys)
  sets_append l i [] ys = ap (λ n. sets l n ys) (add-zero i)
  sets_append l i (x ∷ xs) ys =
      let shift : i + suc (length xs) ≡ suc i + length xs = omega arith in
      ap (λ n. sets (sets (set l i x) (suc i) xs) n ys) shift ∙ sets_append (set l i x) (suc i) xs ys

  -- one store more
  pub sets_more : (l : List A) (i : ℕ) (xs : List A) (x : A) → set (sets l i xs) (i + length xs) x ≡ sets l i (xs ++ (x ∷ []))
  sets_more l i xs x = sets_append l i xs (x ∷ [])

  -- past the stores the list is as it was
  pub sets_past : (l : List A) (i : ℕ) (xs : List A) (j : ℕ) (d : A) → i + length xs ≤ j → get_or (sets l i xs) j d ≡ get_or l j d
  sets_past l i [] j d h = refl
  sets_past l i (x ∷ xs) j d h = sets_past (set l i x) (suc i) xs j d (omega arith) ∙ get_or-set_other l i j x d (λ e. omega arith)

  -- stores from the front on
  pub sets_front : (l xs : List A) → length xs ≤ length l → sets l 0 xs ≡ xs ++ drop (length xs) l
  sets_front l xs h = sets-eq xs l 0 (omega arith) ∙ ap (λ n. xs ++ drop n l) (omega_zero (length xs))
    where
      omega_zero : (n : ℕ) → 0 + n ≡ n
      omega_zero n = omega arith

  -- as many stores as there are elements
  pub sets_over : (l xs : List A) → length xs ≡ length l → sets l 0 xs ≡ xs
  sets_over l xs e = sets_front l xs (omega arith) ∙ ap (λ r. xs ++ r) (drop_all (length xs) l (omega arith)) ∙ append-nil xs

  -- what was stored at the front
  pub sets_take : (l xs : List A) → length xs ≤ length l → take (length xs) (sets l 0 xs) ≡ xs
  sets_take l xs h = ap (take (length xs)) (sets_front l xs h) ∙ take_at xs (drop (length xs) l) (length xs) refl

  -- one element more
  pub take_more : (l : List A) (i : ℕ) (d : A) → i < length l → take (i + 1) l ≡ take i l ++ (get_or l i d ∷ [])
  take_more l i d h = rw (add-one i) (take-suc l i d h)

  -- an element among the first n
  pub take_member : (l : List A) (n i : ℕ) (d : A) → i < n → n ≤ length l → get_or l i d ∈ take n l
  take_member l n i d h k =
      subst (λ x. x ∈ take n l) (get_or-take n l i d h) (get_d_in (take n l) i d (omega (arith, length-take-le n l k)))

-- there are n numbers below n
pub up_to_length : (n : ℕ) → length (up_to n) ≡ n
unfolding up_to
up_to_length zero = refl
up_to_length (suc n) = omega (arith, length-append (up_to n) (n ∷ []), up_to_length n)

-- number i stands at place i
pub up_to_at : (n i : ℕ) → i < n → get_or (up_to n) i 0 ≡ i
unfolding up_to
up_to_at zero i h = absurd (omega arith)
up_to_at (suc n) i h = go (ltb i n) (ltb? i n) (up_to_at n i)
  where
    go : (b : Bool) → Test (i < n) (n ≤ i) b → (i < n → get_or (up_to n) i 0 ≡ i) → get_or (up_to n ++ (n ∷ [])) i 0 ≡ i
    go true (passed k) rec = get_or-append (up_to n) (n ∷ []) 0 i (omega (arith, up_to_length n)) ∙ rec k
    go false (failed k) rec =
        let same : n ≡ i = omega arith in
        get_or_at (up_to n) n [] 0 i (up_to_length n ∙ same) ∙ same

-- one number more is stored
pub up_to_more : (l : List ℕ) (i : ℕ) → set (sets l 0 (up_to i)) i i ≡ sets l 0 (up_to (i + 1))
unfolding up_to
up_to_more l i =
    let place : i ≡ 0 + length (up_to i) = omega (arith, up_to_length i) in
    ap (λ n. set (sets l 0 (up_to i)) n i) place ∙ sets_more l 0 (up_to i) i ∙ ap (λ n. sets l 0 (up_to n)) (sym (add-one i))

-- the numbers that were stored at the front
pub up_to_take : (l : List ℕ) (n : ℕ) → n ≤ length l → take n (sets l 0 (up_to n)) ≡ up_to n
up_to_take l n h =
    ap (λ k. take k (sets l 0 (up_to n))) (sym (up_to_length n)) ∙ sets_take l (up_to n) (omega (arith, up_to_length n))

-- a list of zeros has 0 everywhere
pub zeros_at : (n v : ℕ) → get_or {A = ℕ} (replicate n 0) v 0 ≡ 0
zeros_at zero v = refl
zeros_at (suc n) zero = refl
zeros_at (suc n) (suc v) = zeros_at n v
