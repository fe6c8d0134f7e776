-- The first place from a given one on whose element passes a test: what stands before it, at it and behind it.
use mathlib.Core.Path.{◌≡◌, refl, ap, ◌∙◌}
use mathlib.Core.Bool.{Bool, true, false, not, cond}
use mathlib.Core.List.{List, [], ◌∷◌}
use Prim.Native.Nat.{ℕ, zero, suc, ◌≤◌, ◌<◌}
use native.Mathlib.Omega.{arith}
use lib.Dec.{T}
use lib.ListN.{length, get_or, drop}
use Rattle.integers.proofs.Tests.{Test, passed, failed, test?}
use Rattle.lists.specs.Lists.{keep}
use Rattle.reach.specs.Links.{first_row}

module _ {A : Type 0} (ok : A → Bool) where
  -- at a place of the list: the place itself where its element passes, else the first from the next place on
  pub first_row-step : (d : A) (i : ℕ) (l : List A) → i < length l → first_row ok i l ≡ cond (ok (get_or l i d)) i (first_row ok (suc i) l)
  unfolding first_row
  first_row-step d i [] h = absurd (omega arith)
  first_row-step d zero (x ∷ l) h = refl
  first_row-step d (suc i) (x ∷ l) h = ap suc (first_row-step d i l (omega arith)) ∙ go (ok (get_or l i d))
    where
      go : (t : Bool) → suc (cond t i (first_row ok (suc i) l)) ≡ cond t (suc i) (suc (first_row ok (suc i) l))
      go true = refl
      go false = refl

  -- behind the list there is none
  pub first_row_end : (i : ℕ) (l : List A) → length l ≤ i → first_row ok i l ≡ length l
  unfolding first_row
  first_row_end i [] h = refl
  first_row_end zero (x ∷ l) h = absurd (omega arith)
  first_row_end (suc i) (x ∷ l) h = ap suc (first_row_end i l (omega arith))

  -- it is a place of the list, or the length
  pub first_row-within : (i : ℕ) (l : List A) → first_row ok i l ≤ length l
  unfolding first_row
  first_row-within i [] = omega arith
  first_row-within zero (x ∷ l) = go (ok x) (first_row-within zero l)
    where
      go : (t : Bool) → first_row ok zero l ≤ length l → cond t 0 (suc (first_row ok zero l)) ≤ suc (length l)
      go true h = omega arith
      go false h = omega arith
  first_row-within (suc i) (x ∷ l) = omega (arith, first_row-within i l)

  -- it is no earlier place
  pub first_row-from : (i : ℕ) (l : List A) → i ≤ length l → i ≤ first_row ok i l
  unfolding first_row
  first_row-from i [] h = omega arith
  first_row-from zero (x ∷ l) h = omega arith
  first_row-from (suc i) (x ∷ l) h = omega (arith, first_row-from i l (omega arith))

  -- no element from i on before it passes
  pub first_row_fails : (d : A) (i k : ℕ) (l : List A) → i ≤ k → k < first_row ok i l → T (not (ok (get_or l k d)))
  unfolding first_row
  first_row_fails d i k [] h j = absurd (omega arith)
  first_row_fails d zero zero (x ∷ l) h j = go (ok x) j
    where
      go : (t : Bool) → 0 < cond t 0 (suc (first_row ok zero l)) → T (not t)
      go true h = absurd (omega arith)
      go false h = tt
  first_row_fails d zero (suc k) (x ∷ l) h j = go (ok x) j (first_row_fails d zero k l (omega arith))
    where
      go : (t : Bool) → suc k < cond t 0 (suc (first_row ok zero l)) → (k < first_row ok zero l → T (not (ok (get_or l k d)))) → T (not (ok (get_or l k d)))
      go true h rec = absurd (omega arith)
      go false h rec = rec (omega arith)
  first_row_fails d (suc i) zero (x ∷ l) h j = absurd (omega arith)
  first_row_fails d (suc i) (suc k) (x ∷ l) h j = first_row_fails d i k l (omega arith) (omega arith)

  -- where it is a place of the list, the element there passes
  pub first_row_passes : (d : A) (i : ℕ) (l : List A) → first_row ok i l < length l → T (ok (get_or l (first_row ok i l) d))
  unfolding first_row
  first_row_passes d i [] h = absurd (omega arith)
  first_row_passes d zero (x ∷ l) h = go (ok x) (test? (ok x)) h (first_row_passes d zero l)
    where
      go : (t : Bool) → Test (T (ok x)) (T (not (ok x))) t → cond t 0 (suc (first_row ok zero l)) < suc (length l)
          → (first_row ok zero l < length l → T (ok (get_or l (first_row ok zero l) d))) → T (ok (get_or (x ∷ l) (cond t 0 (suc (first_row ok zero l))) d))
      go true (passed p) h rec = p
      go false (failed p) h rec = rec (omega arith)
  first_row_passes d (suc i) (x ∷ l) h = first_row_passes d i l (omega arith)

  -- where there is none from i on, nothing is kept from there on
  pub first_row-none : (i : ℕ) (l : List A) → length l ≤ first_row ok i l → keep ok (drop i l) ≡ []
  unfolding first_row keep
  first_row-none zero [] h = refl
  first_row-none (suc i) [] h = refl
  first_row-none zero (x ∷ l) h = go (ok x) h (first_row-none zero l)
    where
      go : (t : Bool) → suc (length l) ≤ cond t 0 (suc (first_row ok zero l)) → (length l ≤ first_row ok zero l → keep ok l ≡ [])
          → cond t (x ∷ keep ok l) (keep ok l) ≡ []
      go true h rec = absurd (omega arith)
      go false h rec = rec (omega arith)
  first_row-none (suc i) (x ∷ l) h = first_row-none i l (omega arith)

  -- else what is kept from i on is the element there, and what is kept behind it
  pub first_row-keep : (d : A) (i : ℕ) (l : List A) → first_row ok i l < length l
      → keep ok (drop i l) ≡ get_or l (first_row ok i l) d ∷ keep ok (drop (suc (first_row ok i l)) l)
  unfolding first_row keep
  first_row-keep d i [] h = absurd (omega arith)
  first_row-keep d zero (x ∷ l) h = go (ok x) h (first_row-keep d zero l)
    where
      go : (t : Bool) → cond t 0 (suc (first_row ok zero l)) < suc (length l)
          → (first_row ok zero l < length l → keep ok l ≡ get_or l (first_row ok zero l) d ∷ keep ok (drop (suc (first_row ok zero l)) l))
          → cond t (x ∷ keep ok l) (keep ok l)
          ≡ get_or (x ∷ l) (cond t 0 (suc (first_row ok zero l))) d ∷ keep ok (drop (cond t 0 (suc (first_row ok zero l))) l)
      go true h rec = refl
      go false h rec = rec (omega arith)
  first_row-keep d (suc i) (x ∷ l) h = first_row-keep d i l (omega arith)
