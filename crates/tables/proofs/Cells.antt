-- A number of a table as the code has it, by its bits: cast to usize, and compared with a number that is written out.
use mathlib.Core.Path.{◌≡◌, refl, sym, ◌∙◌}
use mathlib.Core.Bool.{true, false}
use Prim.Native.Nat.{ℕ, ◌<◌, ◌^◌}
use native.Mathlib.Omega.{arith}
use borrow.Author.Tests.{eq-eqb, ne_eqb}
use lib.Dec.{T, eqb}
use lib.IntN.{ℤ, pos, negsuc, nat_abs}
use lib.Signed.{◌≤ℤ◌, non_neg, yes_non_neg, pos-nat_abs}
use mir.Syntax.{w64}
use mir.Val.{Fits, SFits, to_z, of_z}
use mir.Facts.{to_z-of_z, Fits-nat_abs}
use Rattle.std.proofs.lemmas.Bool.Decides.{nat_tests}
use Rattle.std.proofs.lemmas.Int.{ints}
use Rattle.integers.specs.Integers.{eq_z}

module _ {z : ℤ} (fits : SFits w64 z) (low : pos 0 ≤ℤ z) where
  -- the cast is defined
  pub index_fits : T (non_neg (to_z w64 (of_z w64 z))) × Fits w64 (nat_abs (to_z w64 (of_z w64 z)))
  index_fits = simp (to_z-of_z, fits) (yes_non_neg low, Fits-nat_abs tt fits)

  -- the cast gives the number
  pub index_same : pos (nat_abs (to_z w64 (of_z w64 z))) ≡ z
  index_same = simp (to_z-of_z, fits) (pos-nat_abs z (yes_non_neg low))

-- the test for a number that is written out, on the bits
pub bits_test : {z : ℤ} → SFits w64 z → (n : ℕ) → n < 2 ^ 63 → eqb (of_z w64 z) n ≡ eq_z z (pos n)
bits_test {z = pos a} f n h = refl
bits_test {z = negsuc a} f n h = ne_eqb (of_z w64 (negsuc a)) n (λ e. omega (arith, f.sfits))

module _ {z : ℤ} (fits : SFits w64 z) {n : ℕ} (small : n < 2 ^ 63) where
  -- the bits are those of the number that is written out
  pub bits-same : of_z w64 z ≡ n → eq_z z (pos n) ≡ true
  bits-same e = sym (bits_test fits n small) ∙ eq-eqb (of_z w64 z) n e

  -- the bits are not those of the number that is written out
  pub bits-other : (of_z w64 z ≡ n → ⊥) → eq_z z (pos n) ≡ false
  bits-other e = sym (bits_test fits n small) ∙ ne_eqb (of_z w64 z) n e

-- a number that is written out, against its bits: for the search
pub cell_test : {z : ℤ} → SFits w64 z → (n : ℕ) → n < 2 ^ 63 → eq_z z (pos n) ≡ eqb (of_z w64 z) n
cell_test f n h = sym (bits_test f n h)

-- for the search: tests on numbers, and on a number against one that is written out
pub ruleset cells = (nat_tests, ints, cell_test)
