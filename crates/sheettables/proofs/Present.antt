-- The numbers that are on the sheet: one number more, how many they are, and the numbers of their node rows.
use mathlib.Core.Path.{◌≡◌, refl, sym, ap, ◌∙◌}
use mathlib.Core.Bool.{Bool, true, false, cond}
use mathlib.Core.List.{List, [], ◌∷◌, ◌++◌, append_assoc, append-nil, flat_map}
use Prim.Native.Nat.{ℕ, zero, suc, ◌+◌, ◌*◌, ◌≤◌, ◌<◌}
use native.Mathlib.Numerals.{add-one}
use native.Mathlib.Omega.{arith}
use lib.Dec.{ltb}
use lib.IntN.{ℤ, pos}
use lib.ListN.{length, get_or, length-append}
use Rattle.integers.proofs.Tests.{Test, passed, failed, ltb?}
use Rattle.model.specs.Limits.{node_width}
use Rattle.model.specs.Sheet.{byte_node}
use Rattle.sheettables.specs.Parts.{is_present, present, nodes_of}

-- the lists of one element more
pub flat_map_snoc : {A B : Type 0} (f : A → List B) (l : List A) (x : A) → flat_map f (l ++ (x ∷ [])) ≡ flat_map f l ++ f x
unfolding flat_map
flat_map_snoc f [] x = append-nil (f x)
flat_map_snoc f (y ∷ l) x = ap (λ t. f y ++ t) (flat_map_snoc f l x) ∙ sym (append_assoc (f y) (flat_map f l) (f x))

module _ (ranges : List ℤ) where
  -- with number n, where it is on the sheet
  pub present-more : (n : ℕ) → is_present ranges n ≡ true → present ranges (n + 1) ≡ present ranges n ++ (n ∷ [])
  unfolding present
  present-more n e = rw (add-one n, e)

  -- and where it is not
  pub present-same : (n : ℕ) → is_present ranges n ≡ false → present ranges (n + 1) ≡ present ranges n
  unfolding present
  present-same n e = rw (add-one n, e)

  -- of the numbers below n at most n are on the sheet
  pub present_length : (n : ℕ) → length (present ranges n) ≤ n
  unfolding present
  present_length zero = omega arith
  present_length (suc n) = go (is_present ranges n) (present_length n)
    where
      go : (b : Bool) → length (present ranges n) ≤ n → length (cond b (present ranges n ++ (n ∷ [])) (present ranges n)) ≤ suc n
      go true h = omega (arith, length-append (present ranges n) (n ∷ []))
      go false h = omega arith

  -- and no fewer than of those below a lower one
  pub present_grows : (m n : ℕ) → m ≤ n → length (present ranges m) ≤ length (present ranges n)
  unfolding present
  present_grows m zero h = let same : m ≡ 0 = omega arith in rw (same) (omega arith)
  present_grows m (suc n) h = go (ltb m (suc n)) (ltb? m (suc n)) (present_grows m n)
    where
      more : (b : Bool) → length (present ranges n) ≤ length (cond b (present ranges n ++ (n ∷ [])) (present ranges n))
      more true = omega (arith, length-append (present ranges n) (n ∷ []))
      more false = omega arith

      go : (b : Bool) → Test (m < suc n) (suc n ≤ m) b → (m ≤ n → length (present ranges m) ≤ length (present ranges n))
          → length (present ranges m) ≤ length (present ranges (suc n))
      go true (passed k) rec = omega (arith, rec (omega arith), more (is_present ranges n))
      go false (failed k) rec = let same : m ≡ suc n = omega arith in rw (same) (omega arith)

  module _ (kind : ℤ) where
    -- the node rows with that of number n
    pub nodes-more : (n : ℕ) → is_present ranges n ≡ true → nodes_of kind ranges (n + 1) ≡ nodes_of kind ranges n ++ byte_node kind (get_or ranges n (pos 0))
    unfolding nodes_of
    nodes-more n e =
        let row : ℕ → List ℤ = λ v. byte_node kind (get_or ranges v (pos 0)) in
        ap (flat_map row) (present-more n e) ∙ flat_map_snoc row (present ranges n) n

    -- and without it
    pub nodes-same : (n : ℕ) → is_present ranges n ≡ false → nodes_of kind ranges (n + 1) ≡ nodes_of kind ranges n
    unfolding nodes_of
    nodes-same n e = ap (flat_map (λ v. byte_node kind (get_or ranges v (pos 0)))) (present-same n e)

    -- how many numbers the node rows have
    pub nodes_length : (n : ℕ) → length (nodes_of kind ranges n) ≡ node_width * length (present ranges n)
    unfolding nodes_of flat_map byte_node
    nodes_length n = each (present ranges n)
      where
        each : (l : List ℕ) → length (flat_map (λ v. byte_node kind (get_or ranges v (pos 0))) l) ≡ node_width * length l
        each [] = refl
        each (v ∷ l) = omega (arith, each l)
