-- Stores into a list one after the other: those of a row, and rows one behind the other.
use mathlib.Core.Path.{◌≡◌, refl, sym, ap, ◌∙◌}
use mathlib.Core.List.{List, [], ◌∷◌, ◌++◌}
use Prim.Native.Nat.{ℕ, suc, ◌+◌, ◌≤◌}
use native.Mathlib.Nat.{add-zero}
use native.Mathlib.Omega.{arith}
use lib.ListN.{length, set}
use borrow.Rule.Slice.PartMut.{put_mid}
use lib.Seq.{sets, sets-eq, take-length}
use Rattle.std.proofs.lemmas.Slice.{put_mid-paste}

module _ {A : Type 0} where
  -- some stores, then others behind them
  pub sets_append : (l : List A) (i : ℕ) (xs ys : List A) → sets (sets l i xs) (i + length xs) ys ≡ sets l i (xs ++ ys)
  sets_append l i [] ys = ap (λ n. sets l n ys) (add-zero i)
  sets_append l i (x ∷ xs) ys =
      let shift : i + suc (length xs) ≡ suc i + length xs = omega arith in
      ap (λ n. sets (sets (set l i x) (suc i) xs) n ys) shift ∙ sets_append (set l i x) (suc i) xs ys

  -- stores behind others, into what these left
  pub sets_behind : (l : List A) (i : ℕ) (xs ys : List A) {m k : List A} {j : ℕ} → m ≡ sets l i xs → j ≡ i + length xs → k ≡ sets m j ys
      → k ≡ sets l i (xs ++ ys)
  sets_behind l i xs ys {j = j} first place second =
      second ∙ ap (λ t. sets t j ys) first ∙ ap (λ n. sets (sets l i xs) n ys) place ∙ sets_append l i xs ys

  -- a row written into a part of a list: its stores one after the other
  pub put_mid-sets : (l : List A) (at : ℕ) {k : ℕ} {ys : List A} (row : List A) → ys ≡ row → k ≡ length row → at + k ≤ length l → put_mid at k l ys ≡ sets l at row
  put_mid-sets l at {k} {ys} row e n h =
      put_mid-paste at k l ys row (length row) e (sym n) refl ∙ rw (take-length row) (sym (sets-eq row l at (omega (arith, n))))
